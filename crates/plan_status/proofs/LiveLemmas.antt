-- Marks on their way through a ring. Serves src/feed.rt, src/tap.rt, src/line_progress.rt and src/laws.rt.
use Rattle.std.proofs.Common.{ℕ, ◌≤◌, List, length, take, drop, sym, ap, subst, ◌∙◌, arith}
use Rattle.std.proofs.lemmas.List.{length-append, length-take-le, take-append-le, take-append-drop, take-take}
use Rattle.plan_machine.specs.declared.event.Mark.{Mark}
use Rattle.plan_status.specs.declared.tap.Feed.{Feed}
use Rattle.plan_status.specs.Live.{EndsStay, FeedStays, FeedsJoin, IsFed, LineProgressStays, ShownIsFree, UnusedIsFed}
use Rattle.plan_status.proofs.ConsolesLemmas.{free_is_most, looked_stays}

-- ---- laws

pub feed_stays : FeedStays
feed_stays marks more f fed = record {
  within = let long = length-append marks more in let before = fed.within in omega (arith, long, before);
  sent = fed.sent ∙ sym (take-append-le f.shown marks more fed.within);
}

pub unused_is_fed : UnusedIsFed
unused_is_fed marks f unused = record {
  within = subst (λ (k : ℕ). k ≤ length marks) (sym unused.shown) (omega arith);
  sent = unused.sent ∙ ap (λ (k : ℕ). take k marks) (sym unused.shown);
}

pub line_progress_stays : LineProgressStays
line_progress_stays p marks more s line_progress = record {
  looked = looked_stays p marks more s.consoles line_progress.looked;
  fed = feed_stays marks more s.feed line_progress.fed;
  behind = line_progress.behind;
}

pub shown_is_free : ShownIsFree
shown_is_free p marks s n line_progress are =
    let few = line_progress.behind in
    let most = free_is_most p marks s.consoles n line_progress.looked are in
    omega (arith, few, most)

pub ends_stay : EndsStay
ends_stay f g t u pair feed tap = (
  tap.0.0 ∙ (pair.0 ∙ sym feed.0.0),
  tap.0.1 ∙ (pair.1 ∙ sym feed.0.1),
  tap.0.2 ∙ (pair.2 ∙ sym feed.0.2),
  tap.0.3 ∙ (pair.3 ∙ sym feed.0.3),
)

pub feeds_join : FeedsJoin
feeds_join f g h one other = (
  (other.0.0 ∙ one.0.0, other.0.1 ∙ one.0.1, other.0.2 ∙ one.0.2, other.0.3 ∙ one.0.3),
  other.1 ∙ one.1,
)

-- a feed that has no more than the first n of all marks has the first of these
pub fed_of_first : (n : ℕ) (marks : List Mark) (f : Feed) → n ≤ length marks → f.shown ≤ n → IsFed marks f → IsFed (take n marks) f
fed_of_first n marks f within few fed = record {
  within = subst (λ (k : ℕ). f.shown ≤ k) (sym (length-take-le n marks within)) few;
  sent = fed.sent ∙ sym (take-take f.shown n marks few);
}

-- a feed that has the first of n marks has the first of all marks
pub fed_of_all : (n : ℕ) (marks : List Mark) (f : Feed) → n ≤ length marks → IsFed (take n marks) f → IsFed marks f
fed_of_all n marks f within fed = subst (λ (ms : List Mark). IsFed ms f) (take-append-drop n marks) (feed_stays (take n marks) (drop n marks) f fed)
