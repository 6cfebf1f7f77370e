-- The phrase that is written, where there is one, and how long it is.
use Rattle.std.proofs.Common.{◌≡◌, ℕ, ◌≤◌, List, ◌++◌, Bool, true, false, cond, codes, Option, Some, None, length, append_assoc, arith, refl}
use Rattle.std.proofs.lemmas.Bool.Decides.{nat_tests}
use Rattle.std.specs.Prelude.{◌==◌, [], nat_le, option_map, unwrap_or}
use Rattle.std.specs.Borrow.{Bor}
use Rattle.http.specs.StatusCode.{reason_phrase}
use Rattle.http_routes.specs.ReplyTexts.{phrase_of}

-- the bytes of a text or of the one in its place
pub bytes_of-or : (found : Option (Bor (List ℕ))) (other : Bor (List ℕ)) → (unwrap_or found other).now ≡ unwrap_or (option_map (λ text. text.now) found) other.now
bytes_of-or None other = refl
bytes_of-or (Some text) other = refl

-- ---- no phrase is longer than 31 bytes

IsShort : Option (List ℕ) → Type 0
IsShort phrase = length (unwrap_or phrase []) ≤ 31

none : IsShort None
unfolding IsShort
none = omega arith

or : (b : Bool) (phrase : List ℕ) (others : Option (List ℕ)) → nat_le (length phrase) 31 ≡ true → IsShort others → IsShort (cond b (Some phrase) others)
unfolding IsShort
or true phrase others short rest = let fits : length phrase ≤ 31 = grind (arith, nat_tests) in fits
or false phrase others short rest = rest

each-short : (n : ℕ) → IsShort (reason_phrase n)
each-short n =
    or (n == 100) (codes "Continue") _ refl
    (or (n == 101) (codes "Switching Protocols") _ refl
    (or (n == 102) (codes "Processing") _ refl
    (or (n == 103) (codes "Early Hints") _ refl
    (or (n == 200) (codes "OK") _ refl
    (or (n == 201) (codes "Created") _ refl
    (or (n == 202) (codes "Accepted") _ refl
    (or (n == 203) (codes "Non Authoritative Information") _ refl
    (or (n == 204) (codes "No Content") _ refl
    (or (n == 205) (codes "Reset Content") _ refl
    (or (n == 206) (codes "Partial Content") _ refl
    (or (n == 207) (codes "Multi-Status") _ refl
    (or (n == 208) (codes "Already Reported") _ refl
    (or (n == 226) (codes "IM Used") _ refl
    (or (n == 300) (codes "Multiple Choices") _ refl
    (or (n == 301) (codes "Moved Permanently") _ refl
    (or (n == 302) (codes "Found") _ refl
    (or (n == 303) (codes "See Other") _ refl
    (or (n == 304) (codes "Not Modified") _ refl
    (or (n == 305) (codes "Use Proxy") _ refl
    (or (n == 307) (codes "Temporary Redirect") _ refl
    (or (n == 308) (codes "Permanent Redirect") _ refl
    (or (n == 400) (codes "Bad Request") _ refl
    (or (n == 401) (codes "Unauthorized") _ refl
    (or (n == 402) (codes "Payment Required") _ refl
    (or (n == 403) (codes "Forbidden") _ refl
    (or (n == 404) (codes "Not Found") _ refl
    (or (n == 405) (codes "Method Not Allowed") _ refl
    (or (n == 406) (codes "Not Acceptable") _ refl
    (or (n == 407) (codes "Proxy Authentication Required") _ refl
    (or (n == 408) (codes "Request Timeout") _ refl
    (or (n == 409) (codes "Conflict") _ refl
    (or (n == 410) (codes "Gone") _ refl
    (or (n == 411) (codes "Length Required") _ refl
    (or (n == 412) (codes "Precondition Failed") _ refl
    (or (n == 413) (codes "Payload Too Large") _ refl
    (or (n == 414) (codes "URI Too Long") _ refl
    (or (n == 415) (codes "Unsupported Media Type") _ refl
    (or (n == 416) (codes "Range Not Satisfiable") _ refl
    (or (n == 417) (codes "Expectation Failed") _ refl
    (or (n == 418) (codes "I'm a teapot") _ refl
    (or (n == 421) (codes "Misdirected Request") _ refl
    (or (n == 422) (codes "Unprocessable Entity") _ refl
    (or (n == 423) (codes "Locked") _ refl
    (or (n == 424) (codes "Failed Dependency") _ refl
    (or (n == 425) (codes "Too Early") _ refl
    (or (n == 426) (codes "Upgrade Required") _ refl
    (or (n == 428) (codes "Precondition Required") _ refl
    (or (n == 429) (codes "Too Many Requests") _ refl
    (or (n == 431) (codes "Request Header Fields Too Large") _ refl
    (or (n == 451) (codes "Unavailable For Legal Reasons") _ refl
    (or (n == 500) (codes "Internal Server Error") _ refl
    (or (n == 501) (codes "Not Implemented") _ refl
    (or (n == 502) (codes "Bad Gateway") _ refl
    (or (n == 503) (codes "Service Unavailable") _ refl
    (or (n == 504) (codes "Gateway Timeout") _ refl
    (or (n == 505) (codes "HTTP Version Not Supported") _ refl
    (or (n == 506) (codes "Variant Also Negotiates") _ refl
    (or (n == 507) (codes "Insufficient Storage") _ refl
    (or (n == 508) (codes "Loop Detected") _ refl
    (or (n == 510) (codes "Not Extended") _ refl
    (or (n == 511) (codes "Network Authentication Required") _ refl
    none)))))))))))))))))))))))))))))))))))))))))))))))))))))))))))))

pub phrase_of-short : (status : ℕ) → length (phrase_of status) ≤ 31
unfolding phrase_of IsShort
phrase_of-short status = each-short status

-- the pieces of a head, one after another, are its two parts
pub joined : (version code space phrase end type before size rest : List ℕ)
    → ((((((version ++ code) ++ space) ++ phrase) ++ (end ++ (type ++ before))) ++ size) ++ rest) ≡ (version ++ (code ++ (space ++ (phrase ++ end)))) ++ (type ++ (before ++ (size ++ rest)))
joined version code space phrase end type before size rest = simp append_assoc
