use Rattle.std.proofs.Common.{sym, subst}
use Rattle.sqlite.specs.Held.{state}
use Rattle.desk_cache.proofs.CacheLemmas.{stands_if_made}
use Rattle.sql_file.specs.OpenedFiles.{OpensFile}
use Rattle.desk_file.proofs.disk.DiskFilesOfficeFiles.open.Goals as goal

-- the desk is the connection that was opened
pub returns-in-Ok-clause-opened : goal.returns-in-Ok-clause-opened
returns-in-Ok-clause-opened g c =
    subst (λ desk. OpensFile g.S.TableFile.finds g.S.Store c.args.self.now.files c.args.name.now desk c.open.new.files) (sym c.of_opened.ensures) c.in-Ok.ensures.opened

pub of_opened-requires-clause-opened : goal.of_opened-requires-clause-opened
of_opened-requires-clause-opened g c = λ clean made.
    let first = c.in-Ok.ensures.opened in
    let it = first.2.opened clean in
    stands_if_made (state g.S.Store first.0) (state g.S.Store c.in-Ok.conn) it.known it.opened (λ so. let stood = it.stands so in (stood.0, stood.2)) made
