use Rattle.std.proofs.Common.{refl}
use Rattle.desk_file.proofs.laws.a_desk_is_its_tables.Goals as goal

-- by what they are
pub returns : goal.returns
returns g c = record {
  stands = λ disk office. (λ it. it, λ it. it);
  is_reliable = λ disk. (λ it. it, λ it. it);
  is_open = λ disk. (λ it. it, λ it. it);
  faults = λ disk. refl;
}
