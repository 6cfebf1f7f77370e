-- Counterexamples: views of what is left to a proxy that leak, and for each two meetings that it
-- distinguishes and that leave the same to the proxy.
use Rattle.std.specs.Prelude.{◌≡◌, ◌&&◌, IsTrue, List, [], ◌∷◌, map, filter, find, reverse, Option, codes, option_and_then}
use Rattle.std.specs.Option.{option_map_or}
use Rattle.vocabulary.specs.Names.{in_places}
use Rattle.vocabulary.specs.Places.{holds}
use Rattle.vocabulary.specs.declared.kinds.Instr.TheVariants.{Free}
use Rattle.desk_words.specs.Office.{is_meeting}
use Rattle.desk_words.specs.ViewTypes.{Number, Party, Place}
use Rattle.desk_words.specs.declared.office.MeetingLists.{MeetingLists}
use Rattle.desk_words.specs.declared.own_things.Received.{Received}
use Rattle.desk_words.specs.declared.records.Appointment.{Appointment}
use Rattle.proxy_rules.specs.Holdings.{is_given_by}
use Rattle.proxy_rules.specs.Parties.{names}
use Rattle.proxy_rules.specs.Shares.{row_of}
use Rattle.party_views.specs.Views.{own_in}
use Rattle.laws_step.specs.DemandsAndGoverning.{known_in}
use Rattle.laws_step.specs.OwnThings.{OwnThingsFunction}
use Rattle.laws_step.specs.Replaced.{LeaveTheSame}
use Rattle.laws_step.specs.WrongAnswers.{a_member, another, one_share}
use Rattle.laws_step.specs.WrongOwnThings.{quiet_meeting}

-- the last received of the same member's appointments that holds the first place of this one: the
-- one that replaced it, or itself (section 324)
abbrev pub replacing : MeetingLists → Appointment → Option Appointment
replacing m a =
    find (λ (b : Appointment). is_given_by a.member b && holds b.range a.range.from)
    (reverse m.appointments)

-- what a proxy knows of an appointment, with something of the one that replaced it
abbrev pub Leak : Type 0
Leak = Appointment → Received → Received

-- own things, where of each appointment that names the party something of the one that replaced it
-- is shown
abbrev pub shown_with : Leak → OwnThingsFunction
shown_with leak m closed party now = record (own_in m closed party now) {
  received = map
      (λ (a : Appointment).
      option_map_or (λ replaced_by. leak replaced_by (known_in m closed now a))
      (replacing m a) (known_in m closed now a))
      (filter (names party) m.appointments);
}

-- its number is shown, as though it were a moment
abbrev pub number_shown : Leak
number_shown replaced_by known = record known { moment = replaced_by.number }

-- its proxy is named, as though the proxy were the member
abbrev pub proxy_shown : Leak
proxy_shown replaced_by known = record known { member = replaced_by.proxy }

-- its places are shown, as though they were the proxy's own
abbrev pub places_shown : Leak
places_shown replaced_by known = record known { range = replaced_by.range }

-- the row of the first member who named the party is shown as the party's own
abbrev pub row_shown : OwnThingsFunction
row_shown m closed party now = record (own_in m closed party now) {
  row = option_and_then (λ (a : Appointment). row_of m.register a.member)
      (find (names party) m.appointments);
}

-- a proxy who is no member
abbrev pub a_proxy : Party
a_proxy = in_places 16 (codes "P")

-- an appointment of the member's, of that number, of a proxy over the places up to one
abbrev pub sample_appointment : Number → Party → Place → Appointment
sample_appointment number proxy to = record {
  member = a_member;
  number = number;
  proxy = proxy;
  range = record { from = 1; to = to };
  instructions = Free ∷ [];
  moment = 0;
}

-- the meeting in which the member appointed the proxy over its one share, and then gave these
abbrev pub meeting_replaced : List Appointment → MeetingLists
meeting_replaced later = record quiet_meeting {
  appointments = sample_appointment 1 a_proxy 1 ∷ later;
}

-- then it appointed the other member over the same share
abbrev pub replaced_once : MeetingLists
replaced_once = meeting_replaced (sample_appointment 2 another 1 ∷ [])

-- the same, and once more
abbrev pub replaced_twice : MeetingLists
replaced_twice =
    meeting_replaced (sample_appointment 2 another 1 ∷ sample_appointment 3 another 1 ∷ [])

-- the same, but it appointed somebody else
abbrev pub replaced_by_one_else : MeetingLists
replaced_by_one_else = meeting_replaced (sample_appointment 2 (in_places 16 (codes "Q")) 1 ∷ [])

-- the same, but over one place more
abbrev pub replaced_over_more : MeetingLists
replaced_over_more = meeting_replaced (sample_appointment 2 another 2 ∷ [])

-- the same, but the member's row has another name, and a penny paid up
abbrev pub replaced_under_another_name : MeetingLists
replaced_under_another_name = record replaced_once {
  register = record (one_share a_member) { name = codes "O"; paid = 1 } ∷ one_share another ∷ [];
}

-- a view distinguishes two meetings that leave the same to a party
pub record ShowsMoreThanIsLeft (view : OwnThingsFunction) (one other : MeetingLists)
    (party : Party)
    : Type 0 where
  pub first : IsTrue (is_meeting one)
  pub second : IsTrue (is_meeting other)
  pub left : LeaveTheSame [] party 0 one other
  pub apart : view one [] party 0 ≡ view other [] party 0 → ⊥
