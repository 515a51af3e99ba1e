-- Each choice between two models has a history, and one alone: all steps of two decks are turns.
use Rattle.exact_histories.proofs.Common.{map, two, ChoicesHaveOneHistory, times, starts_enclose_all, starts_fit_decks, Some}
use Rattle.exact_histories.proofs.{Turns.turns_of, Turns.heads_at, HaveOne.have_one_by}

pub choices_one : ChoicesHaveOneHistory
choices_one limits a b s kind xs have =
    have_one_by limits a (Some b) s have.start (map heads_at xs) (starts_enclose_all (two a b) have.start have.decks have.is_start)
    (turns_of limits (two a b) s kind have.decks have.start (times a) xs (λ at k. k) (starts_fit_decks (two a b) have.start have.decks have.is_start) have.steps)
