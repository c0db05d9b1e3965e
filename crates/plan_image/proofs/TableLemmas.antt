-- Images are read as they were spelled, and each spelling can be read.
use Rattle.std.proofs.Common.{◌≡◌, ◌≢◌, ◌&&◌, ℕ, ◌^◌, ◌≤◌, Bool, true, false, cond, ltb, eqb, List, [], ◌∷◌, ◌++◌, length, drop, Option, Some, None, Result, Ok, Err, refl, sym, ap, subst, ◌∙◌, append_assoc, arith}
use Rattle.std.specs.Prelude.{IfSome, not, nat_eq}
use Rattle.std.specs.Int.{w16, w32, to_be_bytes}
use Rattle.std.specs.List.{AllByRecursion, starts_with}
use Rattle.std.proofs.lemmas.Bool.{ltb-false, le-ltb, eqb-true}
use Rattle.std.proofs.lemmas.List.{append-nil, nil_from_length}
use Rattle.plan_image.specs.declared.fault.Cause.TheVariants as cause
use Rattle.plan_image.specs.declared.reading.stop.Stop.{Stop}
use Rattle.plan_image.specs.declared.fault.ImageFault.{ImageFault}
use Rattle.plan_image.specs.declared.fault.ImageFault.TheVariants as fault
use Rattle.plan_image.specs.declared.image.Pool.{Pool}
use Rattle.plan_image.specs.declared.image.Slot.{Slot}
use Rattle.plan_image.specs.declared.image.Edge.{Edge}
use Rattle.plan_image.specs.declared.image.Parts.{Parts}
use Rattle.plan_image.specs.Spelling.{counted, number, long_text, short_text, AreWords, IsText, IsFileName, AscendsFrom, PoolFits, SlotFits, kind_byte, pool, slot, edge, magic, spelling, bodies, BodiesFit, version_of, version_byte, HasSpelling, IsPrefixFree, IsNoSpelling}
use Rattle.plan_image.specs.Reading.{◌>>=◌, stop, number_up_to, bytes_at, table_at, byte_at, text_at, file_at, kind_at, slot_at, pool_at, version_by, versioned, version_at, head_at, later_tables_at, parts_at, tables_at, located, read_of}
use Rattle.plan_image.proofs.ItemLemmas.{IsBytes, Takes, Takes-then, bind_ok, ok_is}
use Rattle.plan_image.proofs.FieldLemmas.{IsBytes-drop, IsReader, opens, passes, wide16, wide32, number_law, word_law, up_to_law, text_takes, bytes_again, text_law, file_law, table_law, ascending_law}
use Rattle.plan_image.proofs.CodeLemmas.{byte_law, kind_law, beside_is, bodies_law}
use Rattle.plan_image.proofs.EdgeLemmas.{EdgesFit, edges_law}
use Rattle.plan_image.specs.declared.image.Version.{Version}
use Rattle.plan_image.specs.declared.image.Version.TheVariants as version
use Rattle.plan_image.specs.declared.body.BodyInstr.{BodyInstr}

-- ---- fields in a row

pub regroup8 : (a b c d e f g h rest : List ℕ) → (a ++ b ++ c ++ d ++ e ++ f ++ g ++ h) ++ rest ≡ a ++ (b ++ (c ++ (d ++ (e ++ (f ++ (g ++ (h ++ rest)))))))
regroup8 a b c d e f g h rest = simp append_assoc

pub regroup9 : (o h a b c d e f g : List ℕ) → o ++ h ++ a ++ b ++ c ++ d ++ e ++ f ++ g ≡ o ++ (h ++ a ++ b ++ c ++ d ++ e ++ f ++ g)
regroup9 o h a b c d e f g = simp append_assoc

pub Takes8 : (r0 a r1 b r2 c r3 d r4 e r5 f r6 g r7 h r8 : List ℕ) → Takes r0 a r1 → Takes r1 b r2 → Takes r2 c r3 → Takes r3 d r4 → Takes r4 e r5 → Takes r5 f r6 → Takes r6 g r7 → Takes r7 h r8 → Takes r0 (a ++ b ++ c ++ d ++ e ++ f ++ g ++ h) r8
Takes8 r0 a r1 b r2 c r3 d r4 e r5 f r6 g r7 h r8 ta tb tc td te tf tg th =
    Takes-then r0 (a ++ b ++ c ++ d ++ e ++ f ++ g) r7 h r8 (Takes-then r0 (a ++ b ++ c ++ d ++ e ++ f) r6 g r7 (Takes-then r0 (a ++ b ++ c ++ d ++ e) r5 f r6 (Takes-then r0 (a ++ b ++ c ++ d) r4 e r5 (Takes-then r0 (a ++ b ++ c) r3 d r4 (Takes-then r0 (a ++ b) r2 c r3 (Takes-then r0 a r1 b r2 ta tb) tc) td) te) tf) tg) th

pub slot_law : IsReader slot_at slot SlotFits
unfolding slot_at
slot_law = record {
  takes = λ bytes x fits e.
      let a = opens word_law (λ owner. kind_at owner.1 >>= λ kind. Ok (record { owner = owner.0; kind = kind.0 }, kind.1)) bytes x fits e in
      let b = opens kind_law (λ kind. Ok (record { owner = a.0.0; kind = kind.0 }, kind.1)) a.0.1 x a.1.rest_fits a.3 in
      let made : Slot × List ℕ = (record { owner = a.0.0; kind = b.0.0 }, b.0.1) in
      subst (λ (p : Slot × List ℕ). Takes bytes (slot p.0) p.1 × SlotFits p.0) (ok_is made x b.3) (Takes-then bytes (number a.0.0) a.0.1 (kind_byte b.0.0 ∷ []) b.0.1 a.1 b.1, a.2);
  again = λ s rest fits.
      ap slot_at (append_assoc (number s.owner) (kind_byte s.kind ∷ []) rest) ∙ rw (word_law.again s.owner ((kind_byte s.kind ∷ []) ++ rest) fits, kind_law.again s.kind rest tt) refl;
}

pub pool_law : IsReader pool_at pool PoolFits
unfolding pool_at
pool_law = record {
  takes = λ bytes x fits e.
      let a = opens (number_law w16 (2 ^ 16) wide16) (λ len. bytes_at len.0 len.1 >>= λ name. number_up_to w32 1000000 name.1 >>= λ depth. Ok (record { name = name.0; depth = depth.0 }, depth.1)) bytes x fits e in
      let n = bind_ok (bytes_at a.0.0 a.0.1) (λ name. number_up_to w32 1000000 name.1 >>= λ depth. Ok (record { name = name.0; depth = depth.0 }, depth.1)) x a.3 in
      let t = text_takes w16 bytes a.0 n.0 a.1 n.1 in
      let b = opens (up_to_law w32 (2 ^ 32) 1000000 wide32) (λ depth. Ok (record { name = n.0.0; depth = depth.0 }, depth.1)) n.0.1 x t.0.rest_fits n.2 in
      let made : Pool × List ℕ = (record { name = n.0.0; depth = b.0.0 }, b.0.1) in
      subst (λ (p : Pool × List ℕ). Takes bytes (pool p.0) p.1 × PoolFits p.0) (ok_is made x b.3)
      (Takes-then bytes (short_text n.0.0) n.0.1 (number b.0.0) b.0.1 t.0 b.1, record { name = rw t.1 a.2; depth = b.2.0 });
  again = λ p rest fits.
      let regrouped : pool p ++ rest ≡ to_be_bytes w16 (length p.name) ++ (p.name ++ (number p.depth ++ rest)) = append_assoc (short_text p.name) (number p.depth) rest ∙ append_assoc (to_be_bytes w16 (length p.name)) p.name (number p.depth ++ rest) in
      ap pool_at regrouped ∙ rw ((number_law w16 (2 ^ 16) wide16).again (length p.name) (p.name ++ (number p.depth ++ rest)) fits.name, bytes_again p.name (number p.depth ++ rest), (up_to_law w32 (2 ^ 32) 1000000 wide32).again p.depth rest (fits.depth, omega (arith, fits.depth))) refl;
}

-- ---- the head

front_step : (x y : ℕ) (xs ys : List ℕ) (t : Bool) → (starts_with nat_eq xs ys ≡ true → xs ≡ ys ++ drop (length ys) xs) → eqb y x ≡ t → (t && starts_with nat_eq xs ys) ≡ true → x ∷ xs ≡ y ∷ ys ++ drop (length ys) xs
front_step x y xs ys true more is e = rw (eqb-true y x is) (ap (λ (zs : List ℕ). x ∷ zs) (more e))
front_step x y xs ys false more is e = absurd cc

front_is : (ys xs : List ℕ) → starts_with nat_eq xs ys ≡ true → xs ≡ ys ++ drop (length ys) xs
front_is [] xs e = refl
front_is (y ∷ ys) [] e = absurd cc
front_is (y ∷ ys) (x ∷ xs) e = front_step x y xs ys (eqb y x) (front_is ys xs) refl e

abbrev head : Version → List ℕ
head v = magic ++ version_byte v ∷ []

abbrev versions : List (ℕ × Version)
versions = (1, version.One) ∷ (2, version.Two) ∷ []

versioned_ok : (o : Option Version) (bytes rest : List ℕ) (x : Version × List ℕ) → versioned o bytes rest ≡ Ok x → (o ≡ Some x.0) × (rest ≡ x.1)
versioned_ok (Some v) bytes rest x e = let is = ok_is (v, rest) x e in (ap (λ p. Some p.0) is, ap (λ p. p.1) is)
versioned_ok None bytes rest x e = absurd cc

version_takes : (bytes : List ℕ) (x : Version × List ℕ) → IsBytes bytes → version_at bytes ≡ Ok x → Takes bytes (version_byte x.0 ∷ []) x.1
unfolding version_at
version_takes bytes x fits e =
    let a = opens byte_law (λ b. versioned (version_by b.0) bytes b.1) bytes x fits e in
    let t = versioned_ok (version_by a.0.0) bytes a.0.1 x a.3 in
    let s = beside_is (λ b y. version_byte y ≡ b) versions (refl, (refl, tt)) a.0.0 x.0 t.0 in
    subst (λ (n : ℕ). Takes bytes (n ∷ []) x.1) (sym s) (subst (λ (rest : List ℕ). Takes bytes (a.0.0 ∷ []) rest) t.1 a.1)

head_takes : (bytes : List ℕ) (x : Version × List ℕ) → IsBytes bytes → head_at bytes ≡ Ok x → Takes bytes (head x.0) x.1
unfolding head_at
head_takes bytes x fits e = by_front (starts_with nat_eq bytes magic) (starts_with nat_eq magic bytes) (front_is magic bytes) e where
  by_front : (t u : Bool) → (t ≡ true → bytes ≡ magic ++ drop 7 bytes) → cond t (version_at (drop 7 bytes)) (cond u (stop cause.Truncated []) (stop cause.BadMagic bytes)) ≡ Ok x → Takes bytes (head x.0) x.1
  by_front true u is e = Takes-then bytes magic (drop 7 bytes) (version_byte x.0 ∷ []) x.1 (record { parts = is refl; rest_fits = IsBytes-drop 7 bytes fits }) (version_takes (drop 7 bytes) x (IsBytes-drop 7 bytes fits) e)
  by_front false true is e = absurd cc
  by_front false false is e = absurd cc

head_again : (v : Version) (rest : List ℕ) → head_at (head v ++ rest) ≡ Ok (v, rest)
unfolding head_at version_at byte_at
head_again version.One rest = refl
head_again version.Two rest = refl

pub head_law : IsReader head_at head (λ v. Unit {0})
head_law = record { takes = λ bytes x fits e. (head_takes bytes x fits e, tt); again = λ v rest fits. head_again v rest }

-- ---- the whole

-- the tables are within all limits, except that on bytes
pub record PartsFit (p : Parts) : Type 0 where
  pub texts : (length p.texts ≤ 2 ^ 22) × AllByRecursion IsText p.texts
  pub files : (length p.files ≤ 2 ^ 22) × AllByRecursion IsFileName p.files
  pub pools : (length p.pools ≤ 4096) × AllByRecursion PoolFits p.pools
  pub slots : (length p.slots ≤ 2 ^ 24) × AllByRecursion SlotFits p.slots
  pub bodies : IfSome p.bodies BodiesFit
  pub edges : EdgesFit p.bodies p.edges
  pub defaults : AreWords p.defaults × AscendsFrom 0 p.defaults

texts_law : IsReader (table_at text_at (2 ^ 22)) (counted long_text) (λ xs. (length xs ≤ 2 ^ 22) × AllByRecursion IsText xs)
texts_law = table_law text_law (2 ^ 22) (omega arith)

files_law : IsReader (table_at file_at (2 ^ 22)) (counted short_text) (λ xs. (length xs ≤ 2 ^ 22) × AllByRecursion IsFileName xs)
files_law = table_law file_law (2 ^ 22) (omega arith)

pools_law : IsReader (table_at pool_at 4096) (counted pool) (λ xs. (length xs ≤ 4096) × AllByRecursion PoolFits xs)
pools_law = table_law pool_law 4096 (omega arith)

slots_law : IsReader (table_at slot_at (2 ^ 24)) (counted slot) (λ xs. (length xs ≤ 2 ^ 24) × AllByRecursion SlotFits xs)
slots_law = table_law slot_law (2 ^ 24) (omega arith)

abbrev made : Parts × List ℕ → Result (Parts × List ℕ) Stop
made x = Ok x

-- all tables one after another
joined : (bytes r1 r2 r3 r4 r5 r6 r7 r8 : List ℕ) (ts fs : List (List ℕ)) (ps : List Pool) (ss : List Slot) (bs : Option (List (List BodyInstr))) (es : List Edge) (ds : List ℕ) (v : Version) (x : Parts × List ℕ)
    → Takes bytes (head v) r1 → Takes r1 (counted long_text ts) r2 → Takes r2 (counted short_text fs) r3 → Takes r3 (counted pool ps) r4 → Takes r4 (counted slot ss) r5 → Takes r5 (bodies bs) r6 → Takes r6 (counted edge es) r7 → Takes r7 (counted number ds) r8
    → version_of bs ≡ v → PartsFit (record { texts = ts; files = fs; pools = ps; slots = ss; bodies = bs; edges = es; defaults = ds })
    → made (record { texts = ts; files = fs; pools = ps; slots = ss; bodies = bs; edges = es; defaults = ds }, r8) ≡ made x → Takes bytes (spelling x.0) x.1 × PartsFit x.0
unfolding spelling
joined bytes r1 r2 r3 r4 r5 r6 r7 r8 ts fs ps ss bs es ds v x th tt1 tf tp ts1 tb te td is fit e =
    let h : Takes bytes (head (version_of bs)) r1 = subst (λ (w : Version). Takes bytes (head w) r1) (sym is) th in
    subst (λ (p : Parts × List ℕ). Takes bytes (spelling p.0) p.1 × PartsFit p.0) (ok_is _ x e)
    (Takes8 bytes (head (version_of bs)) r1 (counted long_text ts) r2 (counted short_text fs) r3 (counted pool ps) r4 (counted slot ss) r5 (bodies bs) r6 (counted edge es) r7 (counted number ds) r8 h tt1 tf tp ts1 tb te td, fit)

later_tables_take : (bytes r1 r2 r3 r4 r5 : List ℕ) (ts fs : List (List ℕ)) (ps : List Pool) (ss : List Slot) (v : Version) (x : Parts × List ℕ)
    → Takes bytes (head v) r1 → Takes r1 (counted long_text ts) r2 → Takes r2 (counted short_text fs) r3 → Takes r3 (counted pool ps) r4 → Takes r4 (counted slot ss) r5
    → (length ts ≤ 2 ^ 22) × AllByRecursion IsText ts → (length fs ≤ 2 ^ 22) × AllByRecursion IsFileName fs → (length ps ≤ 4096) × AllByRecursion PoolFits ps → (length ss ≤ 2 ^ 24) × AllByRecursion SlotFits ss
    → later_tables_at ts fs ps ss v r5 ≡ Ok x → Takes bytes (spelling x.0) x.1 × PartsFit x.0
later_tables_take bytes r1 r2 r3 r4 r5 ts fs ps ss v x th tt1 tf tp ts1 ft ff fp fs1 e =
    let y = opens (bodies_law v) _ r5 x ts1.rest_fits e in
    let g = opens (edges_law y.0.0) _ y.0.1 x y.1.rest_fits y.3 in
    let k = opens ascending_law _ g.0.1 x g.1.rest_fits g.3 in
    joined bytes r1 r2 r3 r4 r5 y.0.1 g.0.1 k.0.1 ts fs ps ss y.0.0 g.0.0 k.0.0 v x th tt1 tf tp ts1 y.1 g.1 k.1 y.2.0
    (record { texts = ft; files = ff; pools = fp; slots = fs1; bodies = y.2.1; edges = g.2; defaults = k.2 }) k.3

parts_takes : (bytes : List ℕ) (x : Parts × List ℕ) → IsBytes bytes → parts_at bytes ≡ Ok x → Takes bytes (spelling x.0) x.1 × PartsFit x.0
unfolding parts_at
parts_takes bytes x fits e =
    let a = opens head_law _ bytes x fits e in
    let b = opens texts_law _ a.0.1 x a.1.rest_fits a.3 in
    let c = opens files_law _ b.0.1 x b.1.rest_fits b.3 in
    let d = opens pools_law _ c.0.1 x c.1.rest_fits c.3 in
    let s = opens slots_law (λ slots. later_tables_at b.0.0 c.0.0 d.0.0 slots.0 a.0.0 slots.1) d.0.1 x d.1.rest_fits d.3 in
    later_tables_take bytes a.0.1 b.0.1 c.0.1 d.0.1 s.0.1 b.0.0 c.0.0 d.0.0 s.0.0 a.0.0 x a.1 b.1 c.1 d.1 s.1 b.2 c.2 d.2 s.2 s.3

parts_again : (p : Parts) (rest : List ℕ) → PartsFit p → parts_at (spelling p ++ rest) ≡ Ok (p, rest)
unfolding parts_at spelling
parts_again p rest fits =
    ap parts_at (regroup8 (head (version_of p.bodies)) (counted long_text p.texts) (counted short_text p.files) (counted pool p.pools) (counted slot p.slots) (bodies p.bodies) (counted edge p.edges) (counted number p.defaults) rest)
    ∙ rw (
      head_law.again (version_of p.bodies) (counted long_text p.texts ++ (counted short_text p.files ++ (counted pool p.pools ++ (counted slot p.slots ++ (bodies p.bodies ++ (counted edge p.edges ++ (counted number p.defaults ++ rest))))))) tt,
      texts_law.again p.texts (counted short_text p.files ++ (counted pool p.pools ++ (counted slot p.slots ++ (bodies p.bodies ++ (counted edge p.edges ++ (counted number p.defaults ++ rest)))))) fits.texts,
      files_law.again p.files (counted pool p.pools ++ (counted slot p.slots ++ (bodies p.bodies ++ (counted edge p.edges ++ (counted number p.defaults ++ rest))))) fits.files,
      pools_law.again p.pools (counted slot p.slots ++ (bodies p.bodies ++ (counted edge p.edges ++ (counted number p.defaults ++ rest)))) fits.pools,
      slots_law.again p.slots (bodies p.bodies ++ (counted edge p.edges ++ (counted number p.defaults ++ rest))) fits.slots,
      (bodies_law (version_of p.bodies)).again p.bodies (counted edge p.edges ++ (counted number p.defaults ++ rest)) (refl, fits.bodies),
      (edges_law p.bodies).again p.edges (counted number p.defaults ++ rest) fits.edges,
      ascending_law.again p.defaults rest fits.defaults,
    ) refl

pub parts_law : IsReader parts_at spelling PartsFit
parts_law = record { takes = parts_takes; again = parts_again }

pub parts_fit : (p : Parts) → HasSpelling p → PartsFit p
parts_fit p h =
    let c = h.limits.counts in
    let i = h.limits.items in
    record {
      texts = (c.texts, i.texts);
      files = (c.files, i.files);
      pools = (c.pools, i.pools);
      slots = (c.slots, i.slots);
      bodies = h.limits.bodies;
      edges = record { count = c.edges; each = i.edges; waits = h.order.waits; filled = h.filled; instructions = h.limits.instructions };
      defaults = (i.defaults, h.order.defaults);
    }

pub has_spelling : (p : Parts) → PartsFit p → length (spelling p) ≤ 268435456 → HasSpelling p
has_spelling p f le = record {
  limits = record {
    counts = record { texts = f.texts.0; files = f.files.0; pools = f.pools.0; slots = f.slots.0; edges = f.edges.count };
    items = record { texts = f.texts.1; files = f.files.1; pools = f.pools.1; slots = f.slots.1; edges = f.edges.each; defaults = f.defaults.0 };
    bodies = f.bodies;
    instructions = f.edges.instructions;
    bytes = le;
  };
  order = record { waits = f.edges.waits; defaults = f.defaults.1 };
  filled = f.edges.filled;
}

-- the bytes that are read are the spelling
located_ok : (whole : ℕ) (r : Result Parts Stop) (p : Parts) → located whole r ≡ Ok p → r ≡ Ok p
located_ok whole (Ok q) p e = cc
located_ok whole (Err d) p e = absurd cc

nothing : (rest : List ℕ) → not (eqb (length rest) 0) ≡ false → rest ≡ []
nothing rest e = nil_from_length rest (zero_is (length rest) (eqb (length rest) 0) refl e) where
  zero_is : (n : ℕ) (t : Bool) → eqb n 0 ≡ t → not t ≡ false → n ≡ 0
  zero_is n true is e = eqb-true n 0 is
  zero_is n false is e = absurd cc

pub read_takes : (bytes : List ℕ) (p : Parts) → IsBytes bytes → read_of bytes ≡ Ok p → HasSpelling p × (spelling p ≡ bytes)
unfolding read_of tables_at
read_takes bytes p fits e = by_length (ltb 268435456 (length bytes)) refl e where
  by_length : (t : Bool) → ltb 268435456 (length bytes) ≡ t → cond t (Err (fault.Limit 0)) (located (length bytes) (tables_at bytes)) ≡ Ok p → HasSpelling p × (spelling p ≡ bytes)
  by_length true is e = absurd cc
  by_length false is e =
      let le : length bytes ≤ 268435456 = ltb-false _ _ is in
      let a = opens parts_law _ bytes p fits (located_ok (length bytes) (tables_at bytes) p e) in
      let b = passes (not (eqb (length a.0.1) 0)) cause.Trailing a.0.1 (λ _. Ok a.0.0) p a.3 in
      let whole : spelling a.0.0 ≡ bytes = sym (a.1.parts ∙ ap (λ (r : List ℕ). spelling a.0.0 ++ r) (nothing a.0.1 b.0) ∙ append-nil (spelling a.0.0)) in
      subst (λ (q : Parts). HasSpelling q × (spelling q ≡ bytes)) (ok_is a.0.0 p b.1) (has_spelling a.0.0 a.2 (subst (λ (bs : List ℕ). length bs ≤ 268435456) (sym whole) le), whole)

pub read_again : (p : Parts) → HasSpelling p → read_of (spelling p) ≡ Ok p
unfolding read_of tables_at
read_again p h =
    let one : parts_at (spelling p) ≡ Ok (p, []) = ap parts_at (sym (append-nil (spelling p))) ∙ parts_law.again p [] (parts_fit p h) in
    rw (le-ltb _ _ h.limits.bytes, one) refl

-- no spelling is a prefix of another
pub prefix_free : IsPrefixFree
prefix_free p q rest hp hq e =
    let one : parts_at (spelling q) ≡ Ok (p, rest) = ap parts_at (sym e) ∙ parts_law.again p rest (parts_fit p hp) in
    let other : parts_at (spelling q) ≡ Ok (q, []) = ap parts_at (sym (append-nil (spelling q))) ∙ parts_law.again q [] (parts_fit q hq) in
    let same = ok_is (p, rest) (q, []) (sym one ∙ other) in
    (ap (λ (x : Parts × List ℕ). x.0) same, ap (λ (x : Parts × List ℕ). x.1) same)

-- refused bytes are no spelling
pub refuses : (bytes : List ℕ) (e : ImageFault) → (e ≢ fault.Memory → read_of bytes ≡ Err e) → e ≢ fault.Memory → IsNoSpelling bytes
refuses bytes e h n p fits is =
    let one : read_of bytes ≡ Ok p = subst (λ (bs : List ℕ). read_of bs ≡ Ok p) is (read_again p fits) in
    apart p e (read_of bytes) one (h n) where
      apart : (p : Parts) (e : ImageFault) (r : Result Parts ImageFault) → r ≡ Ok p → r ≡ Err e → ⊥
      apart p e r is other = cc
