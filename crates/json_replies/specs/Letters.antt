-- The texts of short replies, of failures, and of replies about a meeting of one session and of
-- two, letter for letter.
use Rattle.std.specs.Prelude.{◌≡◌, ◌++◌, ℕ, Bool, true, false, List, [], ◌∷◌, codes, decimal}
use Rattle.vocabulary.specs.Refusals.{number_of, name_of}
use Rattle.vocabulary.specs.declared.refusal.Refusal.{Refusal}
use Rattle.desk_words.specs.declared.reply.AppointmentUse.TheVariants.{Meeting, LaterPolls}
use Rattle.desk_words.specs.declared.reply.Declaration.{Declaration}
use Rattle.desk_words.specs.declared.reply.Reply.TheVariants.{Called, Loaded, Same, MeetingOpened, Adjourned, Ordered, Started, VotingClosed, Declared, Notice, Mine, Appointed, Ended, Noted, Recorded, Refused}
use Rattle.desk_words.specs.declared.reply.Failure.TheVariants.{Store, Memory}
use Rattle.json_replies.specs.AdjournedSamples.{day_json, further_session, in_first, in_second, moment_json, noticed_with, own_with}
use Rattle.json_replies.specs.Replies.{reply_bytes, failure_bytes}

-- the word for yes and for no
abbrev pub bool_word : Bool → List ℕ
bool_word true = codes "true"
bool_word false = codes "false"

-- the text of a declaration, each number in decimal
abbrev pub declaration_text : Declaration → List ℕ
declaration_text d =
    codes "{\"against\":" ++ decimal d.tally.votes_against
    ++ codes ",\"carried\":" ++ bool_word d.carried
    ++ codes ",\"eligible\":" ++ decimal d.tally.eligible
    ++ codes ",\"for\":" ++ decimal d.tally.votes_for
    ++ codes ",\"ok\":\"declared\",\"withheld\":" ++ decimal d.tally.withheld
    ++ codes "}"

-- each text, with numbers in decimal and the name of a refusal as it is
pub record RepliesAreSpelled : Type 0 where
  pub called : reply_bytes Called ≡ codes "{\"ok\":\"called\"}"
  pub loaded : reply_bytes Loaded ≡ codes "{\"ok\":\"loaded\"}"
  pub same : reply_bytes Same ≡ codes "{\"ok\":\"same\"}"
  pub opened : reply_bytes MeetingOpened ≡ codes "{\"ok\":\"opened\"}"
  pub adjourned : (n : ℕ)
      → reply_bytes (Adjourned n)
      ≡ codes "{\"number\":" ++ decimal n ++ codes ",\"ok\":\"adjourned\"}"
  pub ordered : reply_bytes Ordered ≡ codes "{\"ok\":\"ordered\"}"
  pub started : reply_bytes Started ≡ codes "{\"ok\":\"started\"}"
  pub closed : reply_bytes VotingClosed ≡ codes "{\"ok\":\"closed\"}"
  pub noted : reply_bytes Noted ≡ codes "{\"ok\":\"noted\"}"
  pub recorded : reply_bytes Recorded ≡ codes "{\"ok\":\"recorded\"}"
  pub declared : (d : Declaration) → reply_bytes (Declared d) ≡ declaration_text d
  pub appointed : (n : ℕ)
      → reply_bytes (Appointed (record { number = n; used = Meeting }))
      ≡ codes "{\"number\":" ++ decimal n ++ codes ",\"ok\":\"appointed\",\"use\":\"meeting\"}"
  pub appointed_late : (n : ℕ)
      → reply_bytes (Appointed (record { number = n; used = LaterPolls }))
      ≡ codes "{\"number\":" ++ decimal n
      ++ codes ",\"ok\":\"appointed\",\"use\":\"later polls only\"}"
  pub ended : (n : ℕ)
      → reply_bytes (Ended n) ≡ codes "{\"number\":" ++ decimal n ++ codes ",\"ok\":\"ended\"}"
  pub refused : (r : Refusal)
      → reply_bytes (Refused r)
      ≡ codes "{\"code\":" ++ decimal (number_of r)
      ++ codes ",\"refused\":\"" ++ name_of r ++ codes "\"}"
  pub notice : (d t u : ℕ)
      → reply_bytes (Notice (noticed_with d t u []))
      ≡ codes "{\"appointed\":" ++ moment_json t
      ++ codes ",\"company\":\"private\",\"cutoff\":" ++ moment_json u
      ++ codes ",\"given\":" ++ day_json d
      ++ codes ",\"kind\":\"general\",\"meeting\":\"G1\",\"ok\":\"notice\",\"opened\":"
      ++ moment_json t ++ codes ",\"record\":" ++ moment_json u
      ++ codes ",\"register\":true,\"resolutions\":[{\"kind\":\"ordinary\","
      ++ codes "\"number\":1,\"poll\":{\"chair\":true,\"closed\":null,\"cutoff\":"
      ++ moment_json u ++ codes ",\"late\":false,\"ordered\":" ++ moment_json t
      ++ codes ",\"result\":null,\"started\":null,\"take\":" ++ moment_json t
      ++ codes "},\"text\":\"Accounts\"}]}"
  pub notice_of_two : (d t u v w : ℕ)
      → reply_bytes (Notice (noticed_with d t u (further_session v w ∷ [])))
      ≡ codes "{\"appointed\":" ++ moment_json t
      ++ codes ",\"company\":\"private\",\"cutoff\":" ++ moment_json u
      ++ codes ",\"given\":" ++ day_json d
      ++ codes ",\"kind\":\"general\",\"meeting\":\"G1\",\"ok\":\"notice\",\"opened\":"
      ++ moment_json t ++ codes ",\"record\":" ++ moment_json u
      ++ codes ",\"register\":true,\"resolutions\":[{\"kind\":\"ordinary\","
      ++ codes "\"number\":1,\"poll\":{\"chair\":true,\"closed\":null,\"cutoff\":"
      ++ moment_json u ++ codes ",\"late\":false,\"ordered\":" ++ moment_json t
      ++ codes ",\"result\":null,\"session\":1,\"started\":null,\"take\":" ++ moment_json t
      ++ codes "},\"text\":\"Accounts\"}],\"sessions\":[{\"appointed\":" ++ moment_json t
      ++ codes ",\"cutoff\":" ++ moment_json u ++ codes ",\"number\":1,\"opened\":"
      ++ moment_json t ++ codes "},{\"appointed\":" ++ moment_json v ++ codes ",\"cutoff\":"
      ++ moment_json w ++ codes ",\"number\":2,\"opened\":null}]}"
  pub mine : (t : ℕ)
      → reply_bytes (Mine (own_with t 1 (in_first ∷ [])))
      ≡ codes "{\"authorised\":[],\"casts\":[],\"demands\":[],\"given\":[],"
      ++ codes "\"meeting\":\"G1\",\"ok\":\"mine\",\"persons\":[],\"present\":true,"
      ++ codes "\"received\":[{\"from\":1,\"governs\":[[1,40]],"
      ++ codes "\"instructions\":[\"free\"],\"member\":\"M1\",\"polls\":[],"
      ++ codes "\"received\":" ++ moment_json t ++ codes ",\"to\":40}],\"row\":null}"
  pub mine_of_two : (t : ℕ)
      → reply_bytes (Mine (own_with t 2 (in_first ∷ in_second ∷ [])))
      ≡ codes "{\"authorised\":[],\"casts\":[],\"demands\":[],\"given\":[],"
      ++ codes "\"meeting\":\"G1\",\"ok\":\"mine\",\"persons\":[],\"presences\":[1],"
      ++ codes "\"present\":false,\"received\":[{\"from\":1,\"governs\":[],"
      ++ codes "\"instructions\":[\"free\"],\"member\":\"M1\",\"polls\":[],"
      ++ codes "\"received\":" ++ moment_json t
      ++ codes ",\"sessions\":[{\"acts\":[[1,40]],\"governs\":[[1,40]],\"session\":1},"
      ++ codes "{\"acts\":[[21,40]],\"governs\":[],\"session\":2}],\"to\":40}],"
      ++ codes "\"row\":null}"
  pub store : failure_bytes Store ≡ codes "{\"failed\":\"Store\"}"
  pub memory : failure_bytes Memory ≡ codes "{\"failed\":\"Memory\"}"
