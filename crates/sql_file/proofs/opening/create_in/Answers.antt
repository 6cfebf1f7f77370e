use Rattle.std.proofs.Common.{inl}
use Rattle.sql_file.proofs.opening.create_in.Goals as goal

pub returns-in-Ok : goal.returns-in-Ok
returns-in-Ok g c = inl (c.connect.new.files, c.in-Ok.conn, c.in-Ok.ensures.found, c.make_in.ensures)
