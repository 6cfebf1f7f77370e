use Rattle.line_reader.proofs.LineLaws as laws
use Rattle.line_reader.proofs.law.lines_law.Goals as goal

pub returns : goal.returns
returns c = laws.lines_law
