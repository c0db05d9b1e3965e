-- Adding a shape to those that arrive.
use Rattle.std.proofs.Common.{◌≢◌, List, [], ◌∷◌, ◌++◌, refl, arith}
use Rattle.std.specs.Prelude.{Contains}
use Rattle.std.proofs.lemmas.List.Elements.{Contains-append_left, Contains-append_right}
use Rattle.plan_verify.specs.declared.kinds.Shape.{Shape}
use Rattle.plan_verify.specs.declared.arrivals.Arrival.TheVariants as arrival
use Rattle.plan_verify.specs.Arrivals.{Joins}

pub last_is_there : {X : Type 0} (xs : List X) (x : X) → Contains (xs ++ x ∷ []) x
last_is_there xs x = Contains-append_right xs (x ∷ []) x (0, omega arith, refl)

pub one_differs : (first s : Shape) → first ≢ s → Joins (arrival.One first) arrival.Differ s
one_differs first s differ = record {
  more = λ arrived h. (first, s, Contains-append_left arrived (s ∷ []) first h.arrives, last_is_there arrived s, differ);
}

pub still_differ : (s : Shape) → Joins arrival.Differ arrival.Differ s
still_differ s = record {
  more = λ arrived d. (d.0, d.1, Contains-append_left arrived (s ∷ []) d.0 d.2, Contains-append_left arrived (s ∷ []) d.1 d.3, d.4);
}
