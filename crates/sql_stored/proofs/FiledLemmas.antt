-- The row that is added with a meeting and the parts of a record.
use Rattle.std.proofs.Common.{◌≡◌, ℕ, List, [], ◌∷◌, ◌++◌, Bool, true, false, Option, Some, if◌then◌else◌, map, refl, sym, ap, subst, ◌∙◌}
use Rattle.std.proofs.lemmas.List.{append-nil}
use Rattle.sqlite.specs.Cast.{cast}
use Rattle.sqlite.specs.Kind.{Kind}
use Rattle.sqlite.specs.Kind.TheVariants.{Integer}
use Rattle.sqlite.specs.Order.{Row}
use Rattle.sqlite.specs.declared.types.Value.{Value}
use Rattle.sqlite.specs.declared.types.Value.TheVariants.{Null}
use Rattle.sql_rows.specs.StayLemmas.{cast_null}
use Rattle.sql_rows.specs.Columns.{IsPut, Stay, ◌▸◌, in_meeting, meeting_at}
use Rattle.sql_rows.specs.declared.stored_records.InMeeting.{InMeeting}
use Rattle.sql_stored.specs.Stored.{IsFiled, IsRowOf, KeepsValues, OfEach, Stands, cast_each, front_of}

cast_same : (kinds : List Kind) (values : Row) → Stay kinds values → cast_each kinds values ≡ values
cast_same [] [] s = refl
cast_same [] (v ∷ values) s = absurd s
cast_same (k ∷ kinds) [] s = absurd s
cast_same (k ∷ kinds) (v ∷ values) s = ap (λ w. w ∷ cast_each kinds values) s.0 ∙ ap (λ l. v ∷ l) (cast_same kinds values s.1)

of_each : (kinds : List Kind) (P : Row → Type 0) (values : Row) → OfEach kinds P → Stay kinds values → P values
of_each [] P [] h s = h
of_each [] P (v ∷ values) h s = absurd s
of_each (k ∷ kinds) P [] h s = absurd s
of_each (k ∷ kinds) P (v ∷ values) h s = of_each kinds (λ l. P (v ∷ l)) values (h v) s.1

front_same : (counted : Bool) → map (cast Integer) (if counted then Null ∷ [] else []) ≡ (if counted then Null ∷ [] else [])
front_same true = ap (λ w. w ∷ []) cast_null
front_same false = refl

whole : (v w : Value) (f g l m : Row) → v ≡ w → f ≡ g → l ≡ m → ◌≡◌ {A = List Row} ((v ∷ f ++ l) ∷ []) ((w ∷ g ++ m) ∷ [])
whole v w f g l m p q r = rw (p, q, r) refl

in_meeting_of : {P A : Type 0} (means : Row → ℕ → Option P) (of : P → A) (cells : Row) (meeting : List ℕ) (parts : P) → (meeting_at ▸ means) cells 0 ≡ Some (meeting, parts) → in_meeting means of cells ≡ Some (record { meeting = meeting; item = of parts })
in_meeting_of means of cells meeting parts h = rw h refl

module _ {P A : Type 0} {it : Stands (InMeeting A)} {kinds : List Kind} (means : Row → ℕ → Option P) (of : P → A) (filed : IsFiled it kinds (in_meeting means of)) where
  is_row : (meeting : List ℕ) (parts : P) (values : Row) → Stay kinds values → (meeting_at ▸ means) values 0 ≡ Some (meeting, parts) → IsRowOf it.table it.declared (record { meeting = meeting; item = of parts }) values
  is_row meeting parts values stay is =
      let keeps = of_each kinds (KeepsValues it.table it.declared kinds) values filed.keeps stay in
      record {
        cells = front_of it.declared ++ values;
        preserved = keeps.0 ∙ whole _ _ _ _ _ _ cast_null (front_same it.declared.is_counted) (cast_same kinds values stay);
        means = λ id. ap it.table.means (keeps.1 id) ∙ ap (λ (m : Row → Option (InMeeting A)). m values) filed.meant ∙ in_meeting_of means of values meeting parts is;
      }

  -- what was put of a meeting and of parts is a row of what is made of them
  pub row_put : (width : ℕ) (meeting : List ℕ) (parts : P) (values : Row) → IsPut width kinds (meeting_at ▸ means) (meeting, parts) [] values → IsRowOf it.table it.declared (record { meeting = meeting; item = of parts }) values
  row_put width meeting parts values put =
      let mean : (meeting_at ▸ means) put.values 0 ≡ Some (meeting, parts) = ap (λ l. (meeting_at ▸ means) l 0) (sym (append-nil put.values)) ∙ put.mean [] [] in
      subst (λ l. IsRowOf it.table it.declared (record { meeting = meeting; item = of parts }) l) (sym put.added) (is_row meeting parts put.values put.stay mean)
