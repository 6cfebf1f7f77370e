-- Rows of a register, compared.
use Rattle.std.specs.Prelude.{Bool, true, false, ◌&&◌, ◌==◌, List, length}
use Rattle.std.specs.List.{list_all, zip}
use Rattle.vocabulary.specs.Names.{same_name}
use Rattle.vocabulary.specs.declared.kinds.HolderKind.{HolderKind}
use Rattle.vocabulary.specs.declared.kinds.HolderKind.TheVariants.{Individual, Corporation, Treasury}
use Rattle.desk_words.specs.declared.records.RegisterRow.{RegisterRow}

-- both are the same kind
abbrev pub same_holder : HolderKind → HolderKind → Bool
same_holder Individual Individual = true
same_holder Corporation Corporation = true
same_holder Treasury Treasury = true
same_holder _ _ = false

-- both are the same row
abbrev pub same_row : RegisterRow → RegisterRow → Bool
same_row a b =
    same_name a.member b.member && same_holder a.kind b.kind && same_name a.name b.name
    && a.shares == b.shares && a.paid == b.paid

-- both are the same rows in the same order, which for registers is that they are the same set of
-- rows
abbrev pub same_rows : List RegisterRow → List RegisterRow → Bool
same_rows a b = length a == length b && list_all (λ pair. same_row pair.0 pair.1) (zip a b)
