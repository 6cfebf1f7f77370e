use Rattle.desk_words.specs.Changes.{empty_office}
use Rattle.replay.proofs.BookLemmas.{forgotten-all, forgotten-until, on_err, on_ok}
use Rattle.replay.proofs.script.replay.Goals as goal

pub returns-clause-replayed : goal.returns-clause-replayed
returns-clause-replayed g c =
    on_ok c.replay_on.result (λ answered. forgotten-all (g.R.Source.remaining c.args.reader.now) _ _ _ (answered tt tt empty_office c.new-book.ensures.value)) c.replay_on.ensures.replayed

pub returns-clause-until : goal.returns-clause-until
returns-clause-until g c =
    on_err c.replay_on.result (λ fault answered. forgotten-until (g.R.Source.remaining c.args.reader.now) _ fault _ _ _ (answered tt tt empty_office c.new-book.ensures.value)) c.replay_on.ensures.until
