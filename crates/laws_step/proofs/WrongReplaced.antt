-- Views that show more than what is left are caught.
use Rattle.std.proofs.Common.{◌≡◌, ℕ, true, List, [], ◌∷◌, refl, ap, sym, ◌∙◌, arith}
use Rattle.std.specs.Prelude.{nat_le, Option, Some, None}
use Rattle.std.specs.List.{slice_index_or}
use Rattle.std.proofs.lemmas.Bool.Decides.{nat_tests}
use Rattle.std.proofs.lemmas.List.Elements.{All-nil}
use Rattle.desk_words.specs.declared.office.MeetingLists.{MeetingLists}
use Rattle.desk_words.specs.declared.own_things.Received.{Received}
use Rattle.desk_words.specs.declared.records.RegisterRow.{RegisterRow}
use Rattle.proxy_rules.specs.declared.meeting_records.Cutoffs.{Cutoffs}
use Rattle.party_views.specs.declared.views.OwnView.{OwnView}
use Rattle.laws_step.specs.DemandsAndGoverning.{shares_governed}
use Rattle.laws_step.specs.OwnThings.{OwnThingsFunction}
use Rattle.laws_step.specs.Replaced.{IgnoresNamesAndPence, DependsOnWhatIsLeft, all_cutoffs}
use Rattle.laws_step.specs.WrongReplaced.{ShowsMoreThanIsLeft, a_proxy, sample_appointment, number_shown, places_shown, proxy_shown, replaced_by_one_else, replaced_once, replaced_over_more, replaced_twice, replaced_under_another_name, row_shown, shown_with}

-- a number of the first appointment that is shown
abbrev of_first : (Received → ℕ) → List Received → ℕ
of_first number [] = 0
of_first number (known ∷ all) = number known

-- the first letter of a name
abbrev first_letter : List ℕ → ℕ
first_letter [] = 0
first_letter (letter ∷ letters) = letter

-- the pence that are paid up on the shares of a row
abbrev pence_of : Option RegisterRow → ℕ
pence_of None = 0
pence_of (Some row) = row.paid

-- what came at the first moment of all counts by any cutoff
counts : (n : ℕ) → nat_le 0 n ≡ true
counts n = grind (arith, nat_tests)

-- the appointment that is replaced governs nothing, by whatever cutoffs
governs-none_once : (cutoffs : Cutoffs) → shares_governed replaced_once cutoffs (sample_appointment 1 a_proxy 1) ≡ []
governs-none_once cutoffs = rw (counts cutoffs.appointments) refl

governs-none_twice : (cutoffs : Cutoffs) → shares_governed replaced_twice cutoffs (sample_appointment 1 a_proxy 1) ≡ []
governs-none_twice cutoffs = rw (counts cutoffs.appointments) refl

governs-none_by_one_else : (cutoffs : Cutoffs) → shares_governed replaced_by_one_else cutoffs (sample_appointment 1 a_proxy 1) ≡ []
governs-none_by_one_else cutoffs = rw (counts cutoffs.appointments) refl

governs-none_over_more : (cutoffs : Cutoffs) → shares_governed replaced_over_more cutoffs (sample_appointment 1 a_proxy 1) ≡ []
governs-none_over_more cutoffs = rw (counts cutoffs.appointments) refl

governs-none_under_another_name : (cutoffs : Cutoffs) → shares_governed replaced_under_another_name cutoffs (sample_appointment 1 a_proxy 1) ≡ []
governs-none_under_another_name cutoffs = rw (counts cutoffs.appointments) refl

pub number_more : ShowsMoreThanIsLeft (shown_with number_shown) replaced_once replaced_twice a_proxy
number_more = record {
  first = refl;
  second = refl;
  left = record {
    row = refl;
    given = refl;
    ended = refl;
    received = (record { same = refl; governs = λ k d within. governs-none_once (slice_index_or (all_cutoffs replaced_once [] 0) k d) ∙ sym (governs-none_twice (slice_index_or (all_cutoffs replaced_once [] 0) k d)) }, tt);
    corporations = All-nil _;
    rest = refl;
  };
  apart = λ h. (let shown : 2 ≡ 3 = ap (λ (own : OwnView). of_first (λ known. known.moment) own.received) h in absurd (omega arith));
}

pub proxy_more : ShowsMoreThanIsLeft (shown_with proxy_shown) replaced_once replaced_by_one_else a_proxy
proxy_more = record {
  first = refl;
  second = refl;
  left = record {
    row = refl;
    given = refl;
    ended = refl;
    received = (record { same = refl; governs = λ k d within. governs-none_once (slice_index_or (all_cutoffs replaced_once [] 0) k d) ∙ sym (governs-none_by_one_else (slice_index_or (all_cutoffs replaced_once [] 0) k d)) }, tt);
    corporations = All-nil _;
    rest = refl;
  };
  apart = λ h. (let shown : 66 ≡ 81 = ap (λ (own : OwnView). of_first (λ known. first_letter known.member) own.received) h in absurd (omega arith));
}

pub places_more : ShowsMoreThanIsLeft (shown_with places_shown) replaced_once replaced_over_more a_proxy
places_more = record {
  first = refl;
  second = refl;
  left = record {
    row = refl;
    given = refl;
    ended = refl;
    received = (record { same = refl; governs = λ k d within. governs-none_once (slice_index_or (all_cutoffs replaced_once [] 0) k d) ∙ sym (governs-none_over_more (slice_index_or (all_cutoffs replaced_once [] 0) k d)) }, tt);
    corporations = All-nil _;
    rest = refl;
  };
  apart = λ h. (let shown : 1 ≡ 2 = ap (λ (own : OwnView). of_first (λ known. known.range.to) own.received) h in absurd (omega arith));
}

pub row_more : ShowsMoreThanIsLeft row_shown replaced_once replaced_under_another_name a_proxy
row_more = record {
  first = refl;
  second = refl;
  left = record {
    row = refl;
    given = refl;
    ended = refl;
    received = (record { same = refl; governs = λ k d within. governs-none_once (slice_index_or (all_cutoffs replaced_once [] 0) k d) ∙ sym (governs-none_under_another_name (slice_index_or (all_cutoffs replaced_once [] 0) k d)) }, tt);
    corporations = All-nil _;
    rest = refl;
  };
  apart = λ h. (let shown : 0 ≡ 1 = ap (λ (own : OwnView). pence_of own.row) h in absurd (omega arith));
}

-- what tells two such meetings apart breaks the law
pub caught_by : (view : OwnThingsFunction) (one other : MeetingLists) → ShowsMoreThanIsLeft view one other a_proxy → DependsOnWhatIsLeft view → ⊥
caught_by view one other more law = more.apart (law one other [] a_proxy 0 more.first more.second more.left)

-- a name shown breaks the law of names and pence
pub name_caught : IgnoresNamesAndPence row_shown → ⊥
name_caught law = row_more.apart (law replaced_once replaced_under_another_name.register [] a_proxy 0 row_more.first row_more.second refl refl)
