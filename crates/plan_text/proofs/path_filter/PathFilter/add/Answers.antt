use Rattle.std.proofs.Common.{◌≡◌, ◌<◌, ℕ, length, ap, subst, ◌∙◌}
use Rattle.plan_text.specs.PathFilters.{ends_of, hash_of, place_of, with_bit}
use Rattle.plan_text.proofs.PathFilterLemmas.{filter_added}
use Rattle.plan_text.proofs.path_filter.PathFilter.add.Goals as goal

pub invariant_of-self : goal.invariant_of-self
invariant_of-self c =
    let set : c.set_bit.new.words ≡ with_bit c.deref_mut.result.now (hash_of c.args.path.now) = c.set_bit.ensures.words ∙ ap (with_bit c.deref_mut.result.now) c.hash_of.ensures in
    let within : place_of (length c.deref_mut.result.now) (hash_of c.args.path.now) < length c.deref_mut.result.now =
    subst (λ (h : ℕ). place_of (length c.deref_mut.result.now) h < length c.deref_mut.result.now) c.hash_of.ensures c.set_bit.ensures.within in
    let end_set : c.set_bit-2.new.words ≡ with_bit c.deref_mut-2.result.now (ends_of c.args.path.now) = c.set_bit-2.ensures.words ∙ ap (with_bit c.deref_mut-2.result.now) c.ends_of.ensures in
    let end_within : place_of (length c.deref_mut-2.result.now) (ends_of c.args.path.now) < length c.deref_mut-2.result.now =
    subst (λ (h : ℕ). place_of (length c.deref_mut-2.result.now) h < length c.deref_mut-2.result.now) c.ends_of.ensures c.set_bit-2.ensures.within in (
      filter_added hash_of c.self.inside.words.items c.deref_mut.result.now c.set_bit.new.words c.self.inside.words.len c.self.inside.added.paths c.and-self-inside.result.paths c.args.path.now
          c.self.inside.words.ok.0 c.deref_mut.ensures.value set c.and-self-inside.ensures within c.self.invariant.0,
      filter_added ends_of c.self.inside.ends.items c.deref_mut-2.result.now c.set_bit-2.new.words c.self.inside.ends.len c.self.inside.added.paths c.and-self-inside.result.paths c.args.path.now
          c.self.inside.ends.ok.0 c.deref_mut-2.ensures.value end_set c.and-self-inside.ensures end_within c.self.invariant.1,
    )
