use Rattle.host_run.proofs.laws.a_new_desk_is_stored.Goals as goal

-- by the law of the files that hold offices
pub returns : goal.returns
returns g c = λ before after file end creates reliable zero left. g.met.O.OfficeFiles.creates_held before after file end left creates reliable zero
