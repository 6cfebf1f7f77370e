-- The texts of replies over HTTP/1.1. Each line ends in CR LF.
use Rattle.std.specs.Prelude.{ℕ, List, [], ◌++◌, length, codes, decimal, unwrap_or}
use Rattle.http.specs.StatusCode.{code_digits, reason_phrase}
use Rattle.desk_words.specs.declared.reply.Failure.{Failure}
use Rattle.desk_words.specs.declared.reply.Failure.TheVariants.{Store, Memory}

-- the phrase of a status, or nothing where it has none
unfoldable pub phrase_of : ℕ → List ℕ
phrase_of status = unwrap_or (reason_phrase status) []

-- the version, the status in three digits and its phrase
abbrev pub status_line : ℕ → List ℕ
status_line status =
    codes "HTTP/1.1 " ++ code_digits status
    ++ codes " " ++ phrase_of status
    ++ codes "\r\n"

-- the headers for a body of that many bytes, and the empty line behind them
abbrev pub header_lines : ℕ → List ℕ
header_lines size =
    codes "Content-Type: application/json\r\n" ++ codes "Content-Length: " ++ decimal size
    ++ codes "\r\nConnection: close\r\n\r\n"

-- a reply with this status and this body
abbrev pub reply_text : ℕ → List ℕ → List ℕ
reply_text status body = status_line status ++ (header_lines (length body) ++ body)

-- the body that tells of a failure
abbrev pub failure_body : Failure → List ℕ
failure_body Store = codes "{\"failed\":\"Store\"}"
failure_body Memory = codes "{\"failed\":\"Memory\"}"
