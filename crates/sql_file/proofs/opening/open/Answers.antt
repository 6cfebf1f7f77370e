use Rattle.std.proofs.Common.{inr, subst, sym}
use Rattle.std.proofs.lemmas.Result.{IfErr-weaker, IfOk-weaker}
use Rattle.sqlite.specs.Held.{Held}
use Rattle.sql_file.specs.ClosedFiles.{LetsGo}
use Rattle.sql_file.specs.OpenedFiles.{OpensFile, RefusesFile}
use Rattle.sql_file.proofs.opening.open.Goals as goal

pub returns-in-Ok-clause-opened : goal.returns-in-Ok-clause-opened
returns-in-Ok-clause-opened g c =
    IfOk-weaker c.opened.result _
    (λ (desk : Held _). OpensFile g.S.TableFile.finds g.S.Store c.args.files.now c.args.name.now desk c.opened.new.files)
    (λ desk it. (c.in-Ok.conn, subst (λ files. g.S.TableFile.finds c.args.files.now c.args.name.now c.in-Ok.conn files) (sym it.0) c.in-Ok.ensures.found, it.1))
    c.opened.ensures.opened

pub returns-in-Ok-clause-refused : goal.returns-in-Ok-clause-refused
returns-in-Ok-clause-refused g c =
    IfErr-weaker c.opened.result _
    (λ why. RefusesFile g.S.TableFile.finds g.S.TableFile.refuses (LetsGo g.S.TableFile.gives_up g.S.Store) g.S.Store c.args.files.now c.args.name.now why c.opened.new.files)
    (λ _ it. inr (inr (c.connect.new.files, c.in-Ok.conn, c.in-Ok.ensures.found, it)))
    c.opened.ensures.refused
