-- What the words of a command ask for.
use Rattle.std.specs.Prelude.{◌≡◌, ◌&&◌, ⊤, ℕ, Bool, List, Option, Some, None, Result, Ok, Err, ok_or, bytes_eq, codes, if◌then◌else◌, length, nat_le, nat_lt, option_map}
use Rattle.std.specs.Char.{is_ascii_digit}
use Rattle.std.specs.List.{list_all}
use Rattle.std.specs.Str.Parse.{digits_value, without_leading_plus}
use Rattle.vocabulary.specs.Agreement.{Agrees}
use Rattle.vocabulary.specs.ResultSteps.{◌>>=◌}
use Rattle.calendar.specs.DateTexts.{moment_of}
use Rattle.vocabulary.specs.Names.{meeting_of}
use Rattle.wall_clock.specs.Zones.{Rule, rule_in, rule_of}
use Rattle.cli_args.specs.declared.plan.Plan.{Plan}
use Rattle.cli_args.specs.declared.plan.Plan.TheVariants as plan
use Rattle.cli_exit.specs.declared.words.WordsFault.{WordsFault}
use Rattle.cli_exit.specs.declared.words.WordsFault.TheVariants as fault
use Rattle.cli_args.specs.declared.command_words.CommandWords.{CommandWords}

abbrev pub Text : Type 0
Text = List ℕ

-- the texts of the words that are given to a command
pub record CommandTexts : Type 0 where
  pub file : Option Text
  pub csv : Option Text
  pub txt : Option Text
  pub meeting : Option Text
  pub record_moment : Option Text
  pub port : Option Text
  pub requests : Option Text
  pub zone : Option Text

-- the words given to a command, as contracts see them
abbrev pub texts_of : CommandWords → CommandTexts
texts_of words = record {
  file = option_map (λ word. word.now) words.file;
  csv = option_map (λ word. word.now) words.csv;
  txt = option_map (λ word. word.now) words.txt;
  meeting = option_map (λ word. word.now) words.meeting;
  record_moment = option_map (λ word. word.now) words.record_moment;
  port = option_map (λ word. word.now) words.port;
  requests = option_map (λ word. word.now) words.requests;
  zone = option_map (λ word. word.now) words.zone;
}

-- a command, with the texts of its files, its meeting, its record moment, its port, its number of
-- requests and the rule of its zone
pub data CommandAsked : Type 0 where
  Init : Text → CommandAsked
  Keys : Text → Text → Rule → CommandAsked
  Days : Text → Text → Rule → CommandAsked
  Register : Text → List ℕ → ℕ → Text → Rule → CommandAsked
  Serve : Text → ℕ → ℕ → Rule → CommandAsked
  Results : Text → List ℕ → CommandAsked
  Replay : CommandAsked

-- why the words ask for nothing
pub data Wrong : Type 0 where
  Words : Wrong
  Meeting : Wrong
  Record : Wrong
  Zone : Wrong

-- a plan, as contracts see it
abbrev pub plan_view : Plan → CommandAsked
plan_view (plan.Init file) = Init file.now
plan_view (plan.Keys file csv zone) = Keys file.now csv.now (rule_of zone)
plan_view (plan.Days file txt zone) = Days file.now txt.now (rule_of zone)
plan_view (plan.Register file meeting record_moment csv zone) =
    Register file.now meeting record_moment csv.now (rule_of zone)
plan_view (plan.Serve file port requests zone) = Serve file.now port requests (rule_of zone)
plan_view (plan.Results file meeting) = Results file.now meeting
plan_view plan.Replay = Replay

-- the answer is that fault; of want of memory nothing is said
abbrev pub PlanErrAgrees : {Y : Type 0} → WordsFault → Result Y Wrong → Type 0
PlanErrAgrees (fault.Words text) answer = answer ≡ Err Words
PlanErrAgrees fault.Meeting answer = answer ≡ Err Meeting
PlanErrAgrees fault.Record answer = answer ≡ Err Record
PlanErrAgrees fault.Zone answer = answer ≡ Err Zone
PlanErrAgrees fault.Memory answer = ⊤

-- what was returned, as contracts see it, is the answer, unless memory ran out
abbrev pub PlanAgrees : {X Y : Type 0} → (X → Y) → Result X WordsFault → Result Y Wrong → Type 0
PlanAgrees seen planned answer = Agrees Ok PlanErrAgrees seen planned answer

-- the word that is given, which the command wants
abbrev pub word_in : Option Text → Result Text Wrong
word_in given = ok_or given Words

-- one digit or more, and nothing else
abbrev pub is_number : Text → Bool
is_number text = nat_lt 0 (length text) && list_all is_ascii_digit text

-- the number that a word spells, a plus before it or none, if it lies within the bounds
abbrev pub number_between : ℕ → ℕ → Text → Option ℕ
number_between least most word =
    let digits = without_leading_plus word in
    let number = digits_value 10 digits in
    if is_number digits && (nat_le least number && nat_le number most) then Some number else None

unfoldable pub init_asked : CommandTexts → Result CommandAsked Wrong
init_asked texts = do
  file ← word_in texts.file
  Ok (Init file)

unfoldable pub keys_asked : CommandTexts → Result CommandAsked Wrong
keys_asked texts = do
  file ← word_in texts.file
  csv ← word_in texts.csv
  zone ← word_in texts.zone
  rule ← ok_or (rule_in zone) Zone
  Ok (Keys file csv rule)

unfoldable pub days_asked : CommandTexts → Result CommandAsked Wrong
days_asked texts = do
  file ← word_in texts.file
  txt ← word_in texts.txt
  zone ← word_in texts.zone
  rule ← ok_or (rule_in zone) Zone
  Ok (Days file txt rule)

-- all words are there first; then the meeting is read, the record moment, and the zone
unfoldable pub register_asked : CommandTexts → Result CommandAsked Wrong
register_asked texts = do
  file ← word_in texts.file
  meeting_word ← word_in texts.meeting
  record_word ← word_in texts.record_moment
  csv ← word_in texts.csv
  zone ← word_in texts.zone
  meeting ← ok_or (meeting_of meeting_word) Meeting
  record_moment ← ok_or (moment_of record_word) Record
  rule ← ok_or (rule_in zone) Zone
  Ok (Register file meeting record_moment csv rule)

-- all words are there first; then the port is read, the number of requests, and the zone
unfoldable pub serve_asked : CommandTexts → Result CommandAsked Wrong
serve_asked texts = do
  file ← word_in texts.file
  port_word ← word_in texts.port
  requests_word ← word_in texts.requests
  zone ← word_in texts.zone
  port ← ok_or (number_between 1 65535 port_word) Words
  requests ← ok_or (number_between 1 1000000000 requests_word) Words
  rule ← ok_or (rule_in zone) Zone
  Ok (Serve file port requests rule)

unfoldable pub results_asked : CommandTexts → Result CommandAsked Wrong
results_asked texts = do
  file ← word_in texts.file
  meeting_word ← word_in texts.meeting
  meeting ← ok_or (meeting_of meeting_word) Meeting
  Ok (Results file meeting)

-- what a command of that name asks
abbrev pub asked_by_name : Text → CommandTexts → Result CommandAsked Wrong
asked_by_name name texts =
    if bytes_eq name (codes "init") then init_asked texts
    else if bytes_eq name (codes "keys") then keys_asked texts
    else if bytes_eq name (codes "days") then days_asked texts
    else if bytes_eq name (codes "register") then register_asked texts
    else if bytes_eq name (codes "serve") then serve_asked texts
    else if bytes_eq name (codes "results") then results_asked texts
    else if bytes_eq name (codes "replay") then Ok Replay
    else Err Words
