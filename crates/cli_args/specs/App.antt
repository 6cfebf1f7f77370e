-- The commands of the program, over the words of `clap`.
use Rattle.std.specs.Prelude.{◌≡◌, false, true, [], ◌∷◌, Some, codes}
use Rattle.clap.specs.Walk.{Rule, Text, rule_of}
use Rattle.clap.specs.declared.builder.arg.Arg.{Arg}
use Rattle.clap.specs.declared.builder.value_parser.ValueParser.TheVariants as parser
use Rattle.clap.specs.declared.builder.command.Command.{Command}
use Rattle.clap.specs.declared.builder.command.Command.TheViews.{out-Command}
use Rattle.clap.specs.Simple.{App, app_of, new_app, new_rule, with_rule, with_subcommand}

-- a word that must be given
abbrev pub required_word : Text → Rule
required_word id = record (new_rule id) { required = true }

-- the zone, which is that of the United Kingdom where no other is given
abbrev pub zone : Rule
zone =
    record (new_rule (codes "zone")) {
      long = Some (codes "zone");
      value_names = 1;
      defaults = codes "GMT0BST,M3.5.0/1,M10.5.0" ∷ [];
    }

-- the port, which must be given
abbrev pub port : Rule
port =
    record (new_rule (codes "port")) {
      long = Some (codes "port");
      value_names = 1;
      parser = Some (parser.Unsigned 1 65535);
      required = true;
    }

-- how many requests are served, which is a million where no other number is given
abbrev pub requests : Rule
requests =
    record (new_rule (codes "requests")) {
      long = Some (codes "requests");
      value_names = 1;
      defaults = codes "1000000" ∷ [];
      parser = Some (parser.Unsigned 1 1000000000);
    }

-- a command that takes the file of a desk
abbrev pub on_file : Text → App
on_file name = with_rule (new_app name) (required_word (codes "FILE"))

-- a command that takes the file of a desk and a meeting
abbrev pub on_meeting : Text → App
on_meeting name = with_rule (on_file name) (required_word (codes "MEETING"))

-- the command, and a file that it loads by the clock of a zone
abbrev pub loading : Text → App → App
loading id a = with_rule (with_rule a (required_word id)) zone

abbrev pub init_app : App
init_app = on_file (codes "init")

abbrev pub keys_app : App
keys_app = loading (codes "CSV") (on_file (codes "keys"))

abbrev pub days_app : App
days_app = loading (codes "TXT") (on_file (codes "days"))

abbrev pub register_app : App
register_app =
    loading (codes "CSV")
    (with_rule (on_meeting (codes "register")) (required_word (codes "RECORD")))

abbrev pub serve_app : App
serve_app = with_rule (with_rule (with_rule (on_file (codes "serve")) port) requests) zone

abbrev pub results_app : App
results_app = on_meeting (codes "results")

abbrev pub replay_app : App
replay_app = new_app (codes "replay")

abbrev pub top : App
top =
    record (new_app (codes "desk")) {
      top = record (new_app (codes "desk")).top {
        subcommand_required = true;
        arg_required_else_help = true;
        no_binary_name = true;
      };
    }

-- the program with the commands that make a desk and load files into it
abbrev pub with_loads : App
with_loads =
    with_subcommand
    (with_subcommand (with_subcommand (with_subcommand top init_app.top) keys_app.top) days_app.top)
    register_app.top

-- the program: its seven commands
abbrev pub desk_app : App
desk_app =
    with_subcommand
    (with_subcommand (with_subcommand with_loads serve_app.top) results_app.top) replay_app.top

-- the command is that one, and has no argument that is global
abbrev pub IsCommand : Command → App → Type 0
IsCommand c a = (app_of c ≡ a) × ((out-Command c).has_globals ≡ false)

-- the command takes one argument more, which is not global
abbrev pub TakesArg : Command → Arg → Command → Type 0
TakesArg old arg new =
    arg.global ≡ false
    → (app_of new ≡ with_rule (app_of old) (rule_of arg))
    × ((out-Command new).has_globals ≡ (out-Command old).has_globals)

-- the command takes one more under it, where neither has a global argument
abbrev pub TakesUnder : Command → Command → Command → Type 0
TakesUnder old under new =
    (out-Command old).has_globals ≡ false
    → (out-Command under).has_globals ≡ false
    → IsCommand new (with_subcommand (app_of old) (app_of under).top)
