-- Tables that stand for an office, and still do.
use Rattle.std.proofs.Common.{◌≡◌, sym, ap, subst, ◌∙◌}
use Rattle.sqlite.specs.Effect.{Database}
use Rattle.sqlite.specs.State.{State}
use Rattle.desk_words.specs.declared.office.OfficeLists.{OfficeLists}
use Rattle.sql_schema.specs.Contents.{desk}
use Rattle.sql_model.specs.OfficeRecords.{office_in}
use Rattle.sql_schema.specs.Statements.{HasTables, IsRising, layout_two, records_in}
use Rattle.sql_model.specs.Standing.{Stands}

-- tables that are the same stand for the same office
pub stands_same : (old new : State) (office : OfficeLists) → new.now ≡ old.now → Stands old office → Stands new office
stands_same old new office same h = record {
  desk = record {
    schema = subst (λ (d : Database). HasTables layout_two d.schema) (sym same) h.desk.schema;
    rising = λ number is. subst (λ (d : Database). IsRising (d.trees number)) (sym same) (h.desk.rising number is);
  };
  version = ap (λ (d : Database). records_in desk d.trees) same ∙ h.version;
  holds = ap (λ (d : Database). office_in d.trees) same ∙ h.holds;
  preserved = h.preserved;
}
