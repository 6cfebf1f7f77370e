-- The parties that are named in a reply, and in a party's own things.
use Rattle.std.specs.Prelude.{◌≡◌, List, [], ◌∷◌, ◌++◌, map, Option, Some, None, All, Contains}
use Rattle.std.specs.List.{flat_map}
use Rattle.desk_words.specs.declared.office.OfficeLists.{OfficeLists}
use Rattle.desk_words.specs.declared.records.Appointment.{Appointment}
use Rattle.desk_words.specs.declared.records.Authority.{Authority}
use Rattle.desk_words.specs.declared.records.CastKind.{CastKind}
use Rattle.desk_words.specs.declared.records.CastKind.TheVariants.{Block, AsInstructed}
use Rattle.desk_words.specs.declared.records.CastMark.{CastMark}
use Rattle.desk_words.specs.declared.records.DemandMark.{DemandMark}
use Rattle.desk_words.specs.declared.records.RegisterRow.{RegisterRow}
use Rattle.desk_words.specs.declared.own_things.Authorised.{Authorised}
use Rattle.desk_words.specs.declared.reply.Declaration.{Declaration}
use Rattle.desk_words.specs.declared.own_things.Given.{Given}
use Rattle.desk_words.specs.declared.reply.GivenUse.{GivenUse}
use Rattle.desk_words.specs.declared.reply.Mine.{Mine}
use Rattle.desk_words.specs.declared.own_things.Received.{Received}
use Rattle.desk_words.specs.declared.reply.Reply.{Reply}
use Rattle.desk_words.specs.declared.reply.Reply.TheVariants as reply
use Rattle.desk_words.specs.declared.request.Request.{Request}
use Rattle.desk_words.specs.declared.request.Request.TheVariants as asked
use Rattle.desk_words.specs.ViewTypes.{Moment, Party}
use Rattle.party_views.specs.OwnCasts.{all_casts}
use Rattle.party_views.specs.declared.views.OwnView.{OwnView}
use Rattle.party_views.specs.OwnViews.{nothing_of}
use Rattle.party_views.specs.Views.{own_of}
use Rattle.laws_step.specs.Worlds.{Answering}

-- names of parties
abbrev pub Names : Type 0
Names = List Party

-- the party named in a row of the register
abbrev pub in_row : Option RegisterRow → Names
in_row None = []
in_row (Some row) = row.member ∷ []

-- the parties named in an appointment
abbrev pub in_appointment : Appointment → Names
in_appointment a = a.member ∷ a.proxy ∷ []

-- the parties named in an authority
abbrev pub in_authority : Authority → Names
in_authority a = a.corporation ∷ a.person ∷ []

-- the party whose shares are cast
abbrev pub in_cast_kind : CastKind → Names
in_cast_kind (Block b) = b.member ∷ []
in_cast_kind AsInstructed = []

-- the parties named in a vote
abbrev pub in_cast : CastMark → Names
in_cast c = c.voter ∷ in_cast_kind c.what

-- the parties named in what a party is told of its own things
abbrev pub in_mine : Mine → Names
in_mine m =
    in_row m.row
    ++ flat_map (λ (g : GivenUse). in_appointment g.given.appointment) m.given
    ++ flat_map in_authority m.persons
    ++ map (λ (a : Authorised). a.corporation) m.authorised
    ++ map (λ (d : DemandMark). d.party) m.demands
    ++ flat_map in_cast m.casts
    ++ map (λ (r : Received). r.member) m.received

-- the parties named in a reply
abbrev pub in_reply : Reply → Names
in_reply (reply.Mine m) = in_mine m
in_reply other = []

-- the parties that stand in a party's own things, its own name among them
abbrev pub in_view : OwnView → Names
in_view own =
    own.party
    ∷
    (in_row own.row
    ++ flat_map (λ (g : Given). in_appointment g.appointment) own.given
    ++ flat_map in_authority own.persons
    ++ map (λ (a : Authorised). a.corporation) own.authorised
    ++ map (λ (d : DemandMark). d.party) own.demands
    ++ flat_map in_cast (all_casts own.casts)
    ++ map (λ (r : Received). r.member) own.received)

-- what a party may know of its own in the meeting in which it asks; where it asks what only the
-- office may, its own name alone
abbrev pub own_for : OfficeLists → Party → Moment → Request → OwnView
own_for office party now (asked.Party meeting what) = own_of office party meeting now
own_for office party now request = nothing_of party

-- it names the caller's own: every party named in a reply to a party is that party, or stands in
-- its own things
abbrev pub NamesOwn : Answering → Type 0
NamesOwn answer =
    (office : OfficeLists) (party : Party) (now : Moment) (request : Request)
    → All (Contains (in_view (own_for office party now request)))
    (in_reply (answer office party now request).reply)

-- a count names nobody: the names in a reply do not show whether it tells a count
abbrev pub CountsNameNobody : Type 0
CountsNameNobody = (declared : Declaration) → in_reply (reply.Declared declared) ≡ []
