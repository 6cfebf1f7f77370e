use Rattle.std.proofs.Common.{◌∙◌}
use Rattle.desk_words.specs.Office.{same_meeting}
use Rattle.office_validation.proofs.ValidKeyLemmas.{differ-once}
use Rattle.office_validation.proofs.TieLemmas.{meeting-self, meeting-turned}
use Rattle.office_validation.proofs.meetings.names_differ.Goals as goal

pub returns : goal.returns
returns c = c.are_named_once.ensures ∙ differ-once same_meeting meeting-self meeting-turned c.args.meetings.now
