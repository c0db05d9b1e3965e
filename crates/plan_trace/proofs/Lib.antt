pub mod WordsLemmas
pub mod RepliesLemmas
pub mod ReadingLemmas
pub mod EventsLemmas
pub mod WritingLemmas
pub mod SpellingLaw
pub mod ReadAgain
pub mod OptionsLemmas
