use Rattle.std.proofs.Common.{◌≡◌, ℕ, Bool, true, false, List, [], ◌∷◌, ◌++◌, codes, decimal, refl, append_assoc, ap, ◌∙◌}
use Rattle.serde_json.specs.Data.{boolean, string}
use Rattle.serde_json.specs.Written.{compact_text}
use Rattle.std.specs.Fmt.{digits}
use Rattle.serde_json.proofs.OnLiterals.{serde_json_on_literals}
use Rattle.vocabulary.specs.Refusals.{number_of, name_of}
use Rattle.vocabulary.specs.declared.refusal.Refusal.{Refusal}
use Rattle.vocabulary.specs.declared.refusal.Refusal.TheVariants.{Key, Route, Method, TooLarge, Unreadable, OfficeOnly, PartyOnly, NoMeeting, Exists, ShortNotice, NoResolution, BadRange, SelfNamed, BadInstructions, TooMany, NoSuchNumber, AlreadyEnded, NoRegister, OtherRecord, Opened, NotOpened, Early, NoQuorum, NotPresent, NoRight, PollOrdered, NoPoll, DemandTooSmall, PollNotOpen, PollClosed, NotClosed, Declared, NotYours, AgainstInstruction, PollRunning}
use Rattle.desk_words.specs.declared.reply.AppointmentUse.TheVariants as counted
use Rattle.desk_words.specs.declared.reply.Reply.TheVariants as reply
use Rattle.desk_words.specs.declared.reply.Declaration.{Declaration}
use Rattle.json_replies.specs.Letters.{bool_word, declaration_text}
use Rattle.json_replies.specs.Forms.{decimal_data, object_of}
use Rattle.json_replies.specs.AdjournedSamples.{day_json, further_session, in_first, in_second, moment_json, noticed_with, own_with}
use Rattle.json_replies.specs.Replies.{reply_bytes}
use Rattle.json_replies.proofs.laws.replies_are_spelled.Goals as goal

-- no letter of a refusal's name is escaped
name_as_it_is : (r : Refusal) → compact_text (string (name_of r)) ≡ 34 ∷ (name_of r ++ 34 ∷ [])
unfolding serde_json_on_literals
name_as_it_is Key = refl
name_as_it_is Route = refl
name_as_it_is Method = refl
name_as_it_is TooLarge = refl
name_as_it_is Unreadable = refl
name_as_it_is OfficeOnly = refl
name_as_it_is PartyOnly = refl
name_as_it_is NoMeeting = refl
name_as_it_is Exists = refl
name_as_it_is ShortNotice = refl
name_as_it_is NoResolution = refl
name_as_it_is BadRange = refl
name_as_it_is SelfNamed = refl
name_as_it_is BadInstructions = refl
name_as_it_is TooMany = refl
name_as_it_is NoSuchNumber = refl
name_as_it_is AlreadyEnded = refl
name_as_it_is NoRegister = refl
name_as_it_is OtherRecord = refl
name_as_it_is Opened = refl
name_as_it_is NotOpened = refl
name_as_it_is Early = refl
name_as_it_is NoQuorum = refl
name_as_it_is NotPresent = refl
name_as_it_is NoRight = refl
name_as_it_is PollOrdered = refl
name_as_it_is NoPoll = refl
name_as_it_is DemandTooSmall = refl
name_as_it_is PollNotOpen = refl
name_as_it_is PollClosed = refl
name_as_it_is NotClosed = refl
name_as_it_is Declared = refl
name_as_it_is NotYours = refl
name_as_it_is AgainstInstruction = refl
name_as_it_is PollRunning = refl

-- the word's own text stands between the two members' names and the end
parts : (n : ℕ) (word : List ℕ) → compact_text (object_of ((codes "code", decimal_data n) ∷ (codes "refused", string word) ∷ []))
    ≡ codes "{\"code\":" ++ (decimal n ++ (codes ",\"refused\":" ++ (compact_text (string word) ++ codes "}")))
unfolding serde_json_on_literals
parts n word = simp append_assoc

refused_text : (r : Refusal) → reply_bytes (reply.Refused r) ≡ codes "{\"code\":" ++ decimal (number_of r) ++ codes ",\"refused\":\"" ++ name_of r ++ codes "\"}"
refused_text r =
    parts (number_of r) (name_of r)
    ∙ ap (λ text. codes "{\"code\":" ++ (decimal (number_of r) ++ (codes ",\"refused\":" ++ (text ++ codes "}")))) (name_as_it_is r)
    ∙ simp append_assoc

-- each number's own text stands after its member's name
declaration_parts : (against eligible votes_for withheld : ℕ) (carried : Bool) → compact_text (object_of (
    (codes "against", decimal_data against) ∷ (codes "carried", boolean carried) ∷ (codes "eligible", decimal_data eligible) ∷ (codes "for", decimal_data votes_for)
    ∷ (codes "ok", string (codes "declared")) ∷ (codes "withheld", decimal_data withheld) ∷ []))
    ≡ codes "{\"against\":" ++ decimal against ++ codes ",\"carried\":" ++ bool_word carried ++ codes ",\"eligible\":" ++ decimal eligible
    ++ codes ",\"for\":" ++ decimal votes_for ++ codes ",\"ok\":\"declared\",\"withheld\":" ++ decimal withheld ++ codes "}"
unfolding serde_json_on_literals
declaration_parts against eligible votes_for withheld true = simp append_assoc
declaration_parts against eligible votes_for withheld false = simp append_assoc

declaration_spelled : (d : Declaration) → reply_bytes (reply.Declared d) ≡ declaration_text d
declaration_spelled d = declaration_parts d.tally.votes_against d.tally.eligible d.tally.votes_for d.tally.withheld d.carried

appointed_spelled : (n : ℕ) → reply_bytes (reply.Appointed (record { number = n; used = counted.Meeting })) ≡ codes "{\"number\":" ++ decimal n ++ codes ",\"ok\":\"appointed\",\"use\":\"meeting\"}"
unfolding serde_json_on_literals
appointed_spelled n = simp append_assoc

appointed_late_spelled : (n : ℕ) → reply_bytes (reply.Appointed (record { number = n; used = counted.LaterPolls })) ≡ codes "{\"number\":" ++ decimal n ++ codes ",\"ok\":\"appointed\",\"use\":\"later polls only\"}"
unfolding serde_json_on_literals
appointed_late_spelled n = simp append_assoc

adjourned_spelled : (n : ℕ) → reply_bytes (reply.Adjourned n) ≡ codes "{\"number\":" ++ decimal n ++ codes ",\"ok\":\"adjourned\"}"
unfolding serde_json_on_literals
adjourned_spelled n = simp append_assoc

ended_spelled : (n : ℕ) → reply_bytes (reply.Ended n) ≡ codes "{\"number\":" ++ decimal n ++ codes ",\"ok\":\"ended\"}"
unfolding serde_json_on_literals
ended_spelled n = simp append_assoc

notice_spelled : (d t u : ℕ) → reply_bytes (reply.Notice (noticed_with d t u []))
    ≡ codes "{\"appointed\":" ++ moment_json t
    ++ codes ",\"company\":\"private\",\"cutoff\":" ++ moment_json u ++ codes ",\"given\":"
    ++ day_json d
    ++ codes ",\"kind\":\"general\",\"meeting\":\"G1\",\"ok\":\"notice\",\"opened\":"
    ++ moment_json t ++ codes ",\"record\":" ++ moment_json u
    ++ codes ",\"register\":true,\"resolutions\":[{\"kind\":\"ordinary\","
    ++ codes "\"number\":1,\"poll\":{\"chair\":true,\"closed\":null,\"cutoff\":"
    ++ moment_json u ++ codes ",\"late\":false,\"ordered\":" ++ moment_json t
    ++ codes ",\"result\":null,\"started\":null,\"take\":" ++ moment_json t
    ++ codes "},\"text\":\"Accounts\"}]}"
unfolding serde_json_on_literals digits
notice_spelled d t u = simp append_assoc

notice_of_two_spelled : (d t u v w : ℕ) → reply_bytes (reply.Notice (noticed_with d t u (further_session v w ∷ [])))
    ≡ codes "{\"appointed\":" ++ moment_json t
    ++ codes ",\"company\":\"private\",\"cutoff\":" ++ moment_json u ++ codes ",\"given\":"
    ++ day_json d
    ++ codes ",\"kind\":\"general\",\"meeting\":\"G1\",\"ok\":\"notice\",\"opened\":"
    ++ moment_json t ++ codes ",\"record\":" ++ moment_json u
    ++ codes ",\"register\":true,\"resolutions\":[{\"kind\":\"ordinary\","
    ++ codes "\"number\":1,\"poll\":{\"chair\":true,\"closed\":null,\"cutoff\":"
    ++ moment_json u ++ codes ",\"late\":false,\"ordered\":" ++ moment_json t
    ++ codes ",\"result\":null,\"session\":1,\"started\":null,\"take\":" ++ moment_json t
    ++ codes "},\"text\":\"Accounts\"}],\"sessions\":[{\"appointed\":" ++ moment_json t
    ++ codes ",\"cutoff\":" ++ moment_json u ++ codes ",\"number\":1,\"opened\":"
    ++ moment_json t ++ codes "},{\"appointed\":" ++ moment_json v ++ codes ",\"cutoff\":"
    ++ moment_json w ++ codes ",\"number\":2,\"opened\":null}]}"
unfolding serde_json_on_literals digits
notice_of_two_spelled d t u v w = simp append_assoc

mine_spelled : (t : ℕ) → reply_bytes (reply.Mine (own_with t 1 (in_first ∷ [])))
    ≡ codes "{\"authorised\":[],\"casts\":[],\"demands\":[],\"given\":[],"
    ++ codes "\"meeting\":\"G1\",\"ok\":\"mine\",\"persons\":[],\"present\":true,"
    ++ codes "\"received\":[{\"from\":1,\"governs\":[[1,40]],"
    ++ codes "\"instructions\":[\"free\"],\"member\":\"M1\",\"polls\":[],"
    ++ codes "\"received\":" ++ moment_json t ++ codes ",\"to\":40}],\"row\":null}"
unfolding serde_json_on_literals digits
mine_spelled t = simp append_assoc

mine_of_two_spelled : (t : ℕ) → reply_bytes (reply.Mine (own_with t 2 (in_first ∷ in_second ∷ [])))
    ≡ codes "{\"authorised\":[],\"casts\":[],\"demands\":[],\"given\":[],"
    ++ codes "\"meeting\":\"G1\",\"ok\":\"mine\",\"persons\":[],\"presences\":[1],"
    ++ codes "\"present\":false,\"received\":[{\"from\":1,\"governs\":[],"
    ++ codes "\"instructions\":[\"free\"],\"member\":\"M1\",\"polls\":[],"
    ++ codes "\"received\":" ++ moment_json t
    ++ codes ",\"sessions\":[{\"acts\":[[1,40]],\"governs\":[[1,40]],\"session\":1},"
    ++ codes "{\"acts\":[[21,40]],\"governs\":[],\"session\":2}],\"to\":40}],"
    ++ codes "\"row\":null}"
unfolding serde_json_on_literals digits
mine_of_two_spelled t = simp append_assoc

pub returns : goal.returns
unfolding serde_json_on_literals
returns c = record { called = refl; loaded = refl; same = refl; opened = refl; adjourned = adjourned_spelled; ordered = refl; started = refl; closed = refl; noted = refl; recorded = refl; declared = declaration_spelled; appointed = appointed_spelled; appointed_late = appointed_late_spelled; ended = ended_spelled; refused = refused_text; notice = notice_spelled; notice_of_two = notice_of_two_spelled; mine = mine_spelled; mine_of_two = mine_of_two_spelled; store = refl; memory = refl }
