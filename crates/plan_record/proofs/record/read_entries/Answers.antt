use Rattle.std.proofs.Common.{◌≡◌, length, List, ◌∷◌, ◌++◌, [], drop, ℕ, sym, ◌∙◌, ap, arith}
use Rattle.std.specs.Vec.{vec_len}
use Rattle.plan_record.specs.Entry.{data_of}
use Rattle.plan_record.specs.Entries.{EntryData}
use Rattle.plan_record.specs.Reading.{entry_at}
use Rattle.plan_record.proofs.EntryLemmas.{IsBytes, IsBytes-drop, vec_bytes}
use Rattle.plan_record.proofs.ReadingLemmas.{entry_in_front, no_entry_in_front}
use Rattle.plan_record.proofs.FrontLemmas.{front_grows, good_front, entry_takes}
use Rattle.plan_record.proofs.record.read_entries.Goals as goal

pub at_place-entry-requires : goal.at_place-entry-requires
at_place-entry-requires c =
    let there : c.bytes_from.result.now ≡ drop c.loop-rest.start c.in_ok-file.file.value.items = cc in
    let found = entry_in_front c.bytes_from.result.now c.in-Some.rest.now c.in-Some.ensures in
    let same : c.in_ok-try_clone.field-0.value.items ≡ c.in_ok-file.file.value.items = ap (λ v. v.items) (c.in_ok-try_clone.ensures) in
    ((found.0, c.in-Some.rest.now), ap (λ b. entry_at (drop c.loop-rest.start b)) same ∙ ap entry_at (sym there) ∙ found.1)

pub overflow_sub-end : goal.overflow_sub-end
overflow_sub-end c =
    let there : c.bytes_from.result.now ≡ drop c.loop-rest.start c.args.bytes.items = cc in
    let found = entry_in_front c.bytes_from.result.now c.in-Some.rest.now c.in-Some.ensures in
    let fits : IsBytes c.args.bytes.items = vec_bytes c.args.bytes.items (λ i lt. omega (arith, c.args.bytes.ok, lt)) in
    let takes = entry_takes c.args.bytes.items c.loop-rest.start (found.0, c.in-Some.rest.now) (IsBytes-drop c.loop-rest.start c.args.bytes.items fits) (ap entry_at (sym there) ∙ found.1) in
    let long : c.len.result ≡ length c.args.bytes.items = c.len.ensures ∙ ap vec_len c.deref-in-Some.ensures ∙ c.in_ok-file.file.value.ok.0 ∙ ap length c.loop-rest.invariant.file in
    omega (arith, takes, long)

pub loop-rest-smaller : goal.loop-rest-smaller
loop-rest-smaller c =
    let there : c.bytes_from.result.now ≡ drop c.loop-rest.start c.args.bytes.items = cc in
    let found = entry_in_front c.bytes_from.result.now c.in-Some.rest.now c.in-Some.ensures in
    let fits : IsBytes c.args.bytes.items = vec_bytes c.args.bytes.items (λ i lt. omega (arith, c.args.bytes.ok, lt)) in
    let takes = entry_takes c.args.bytes.items c.loop-rest.start (found.0, c.in-Some.rest.now) (IsBytes-drop c.loop-rest.start c.args.bytes.items fits) (ap entry_at (sym there) ∙ found.1) in
    let long : c.len.result ≡ length c.args.bytes.items = c.len.ensures ∙ ap vec_len c.deref-in-Some.ensures ∙ c.in_ok-file.file.value.ok.0 ∙ ap length c.loop-rest.invariant.file in
    let file : length c.in_ok-file.file.value.items ≡ length c.args.bytes.items = ap length c.loop-rest.invariant.file in
    omega (arith, takes, long, file)

pub loop-rest-preserved : goal.loop-rest-preserved
loop-rest-preserved c =
    let there : c.bytes_from.result.now ≡ drop c.loop-rest.start c.args.bytes.items = cc in
    let found = entry_in_front c.bytes_from.result.now c.in-Some.rest.now c.in-Some.ensures in
    let fits : IsBytes c.args.bytes.items = vec_bytes c.args.bytes.items (λ i lt. omega (arith, c.args.bytes.ok, lt)) in
    let grows = front_grows c.args.bytes.items c.loop-rest.entries.items c.loop-rest.start (found.0, c.in-Some.rest.now) (IsBytes-drop c.loop-rest.start c.args.bytes.items fits) c.loop-rest.invariant.front (ap entry_at (sym there) ∙ found.1) in
    let long : c.len.result ≡ length c.args.bytes.items = c.len.ensures ∙ ap vec_len c.deref-in-Some.ensures ∙ c.in_ok-file.file.value.ok.0 ∙ ap length c.loop-rest.invariant.file in
    let same : c.in_ok-try_clone.field-0.value.items ≡ c.in_ok-file.file.value.items = ap (λ v. v.items) (c.in_ok-try_clone.ensures) in
    let entry : c.at_place-entry.result ≡ found.0 =
    c.at_place-entry.ensures ∙ ap (λ (b : List ℕ). data_of (entry_at (drop c.loop-rest.start b))) (same ∙ c.loop-rest.invariant.file) ∙ ap (λ b. data_of (entry_at b)) (sym there) ∙ ap data_of found.1 in
    let pushed : c.push.new.self.items ≡ c.loop-rest.entries.items ++ found.0 ∷ [] = c.in_ok-push.ensures.items ∙ ap (λ (x : EntryData). c.loop-rest.entries.items ++ x ∷ []) entry in
    record {
      file = c.loop-rest.invariant.file;
      front = rw (pushed, long) grows;
    }

pub returns : goal.returns
returns c =
    let there : c.bytes_from.result.now ≡ drop c.loop-rest.start c.args.bytes.items = cc in
    good_front c.args.bytes.items c.loop-rest.entries.items c.loop-rest.start c.loop-rest.invariant.front (ap entry_at (sym there) ∙ no_entry_in_front c.bytes_from.result.now c.in_default.ensures)
