use Rattle.std.proofs.Common.{◌≡◌, sym, subst, ap}
use Rattle.sqlite.specs.Effect.{Database}
use Rattle.sqlite.specs.Files.{AreFoundIn, file_state}
use Rattle.sql_file.proofs.system.FileStoreFileFromTableFile.connect.Goals as goal

pub returns-in-Ok-clause-found : goal.returns-in-Ok-clause-found
returns-in-Ok-clause-found g c = record {
  unused = c.if-files.false;
  used_up = record { used = c.use_up.ensures.used; none = c.use_up.ensures.none };
  found = c.in-Ok.ensures.found;
  same = λ clean. (c.in-Ok.ensures.opened clean).0.clean;
}

pub returns-in-Ok-clause-rising : goal.returns-in-Ok-clause-rising
returns-in-Ok-clause-rising g c = λ clean.
    let s = file_state c.in-Ok.conn in
    let opened = c.in-Ok.ensures.opened clean in
    let found = c.in-Ok.ensures.found clean in
    let live = opened.1 opened.0.is_open in
    let same : s.now.trees ≡ s.committed.trees = ap (λ (d : Database). d.trees) opened.0.clean in
    c.found_rows_rise.ensures _ s.now.trees s.now.schema (subst (AreFoundIn _) (sym same) found.reads) live.0.lists.listed
