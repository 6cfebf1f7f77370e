-- The head of an input, over the grammar of `httparse`.
use Rattle.std.specs.Prelude.{◌≡◌, ℕ, ◌+◌, ◌<◌, ◌≤◌, ◌⊎◌, List, ◌++◌, Option, Some, None, length, take, drop, map, ⊤}
use Rattle.std.specs.Io.KnownBytes.{Consumes}
use Rattle.httparse.specs.Grammar.{RequestHead, print_request, ReadsRequest, HasNoRequest, MayBecomeRequest, NeverHasRequest, EndsInTarget}
use Rattle.httparse.specs.Spans.{span_bytes, header_bytes, name_and_value}
use Rattle.httparse.specs.declared.spans.HeaderSpan.{HeaderSpan}
use Rattle.httparse.specs.declared.spans.RequestSpans.{RequestSpans}
use Rattle.http_heads.specs.declared.front.Front.{Front}
use Rattle.http_heads.specs.declared.front.Front.TheVariants.{Whole, TooLarge, Unreadable}
use Rattle.http_heads.specs.declared.front.TheConstants.{LONGEST_HEAD, MOST_FIELDS}

-- what a head asks: its method, its target, and the name and the value of each field
pub record HeadContent : Type 0 where
  pub method : List ℕ
  pub target : List ℕ
  pub fields : List (List ℕ × List ℕ)

-- what this head asks
abbrev pub asked_of_head : RequestHead → HeadContent
asked_of_head h = record {
  method = h.method;
  target = h.target;
  fields = map name_and_value h.fields;
}

-- the input is this head, of at most 8,192 bytes, and then rest
pub record HasHead (input : List ℕ) (h : RequestHead) (rest : List ℕ) : Type 0 where
  pub reads : ReadsRequest input h rest
  pub fits : length (print_request h) ≤ LONGEST_HEAD

-- where a head may stand in an input: in its first 8,192 bytes
abbrev pub head_place : List ℕ → List ℕ
head_place input = take LONGEST_HEAD input

-- no prefix of at most 8,192 bytes is a head
abbrev pub HasNoHead : List ℕ → Type 0
HasNoHead input = HasNoRequest (head_place input)

-- there is a head, and it has too many fields
abbrev pub HasManyFields : List ℕ → Type 0
HasManyFields input =
    (h : RequestHead) × (rest : List ℕ) × HasHead input h rest × (MOST_FIELDS < length h.fields)

-- there is no head, and the first 8,192 bytes are there and can still become one
pub record IsUnfinished (input : List ℕ) : Type 0 where
  pub none : HasNoHead input
  pub full : LONGEST_HEAD ≤ length input
  pub unended : MayBecomeRequest (head_place input)

-- there is no head, and the input is short, or its first 8,192 bytes never become one
pub record IsBroken (input : List ℕ) : Type 0 where
  pub none : HasNoHead input
  pub ended : (length input < LONGEST_HEAD) ⊎ NeverHasRequest (head_place input)

-- there is no head, and the first 8,192 bytes are there and end inside the target
pub record IsCutInTarget (input : List ℕ) : Type 0 where
  pub none : HasNoHead input
  pub full : LONGEST_HEAD ≤ length input
  pub inside : EndsInTarget (head_place input)

-- what stands at the front of an input
abbrev pub IsFront : Front → List ℕ → Type 0
IsFront Whole input =
    (h : RequestHead) × (rest : List ℕ) × HasHead input h rest × (length h.fields ≤ MOST_FIELDS)
IsFront TooLarge input = HasManyFields input ⊎ IsUnfinished input
IsFront Unreadable input = IsBroken input

-- what the reader holds: the bytes that it has read, what their head asks, and those behind it
pub record HeadBuffer : Type 0 where
  pub bytes : List ℕ
  pub asked : HeadContent
  pub rest : List ℕ

-- the head, which the reader holds with the bytes that it read behind it; all others are left
pub record HoldsHead (input left : List ℕ) (held : HeadBuffer) : Type 0 where
  pub head : RequestHead
  pub is_head : HasHead input head (held.rest ++ left)
  pub few : length head.fields ≤ MOST_FIELDS
  pub asked : held.asked ≡ asked_of_head head

-- what stands at the front of an input, of which these bytes are left to be read
abbrev pub Finds : Front → List ℕ → List ℕ → HeadBuffer → Type 0
Finds Whole input left held = HoldsHead input left held
Finds TooLarge input left held = IsFront TooLarge input
Finds Unreadable input left held = IsFront Unreadable input

-- whatever follows the bytes, and whatever is held, this stands at the front: it is no whole head
abbrev pub FindsNoHead : List ℕ → Front → Type 0
FindsNoHead bytes front =
    (left : List ℕ) (held : HeadBuffer) → Finds front (bytes ++ left) left held

-- the same where the bytes that were to come are known, behind those that were read before
abbrev pub FindsKnown : Front → List ℕ → Option (List ℕ) → Option (List ℕ) → HeadBuffer → Type 0
FindsKnown front before None left held = ⊤
FindsKnown front before (Some known) None held = ⊥
FindsKnown front before (Some known) (Some left) held = Finds front (before ++ known) left held

-- the bytes so far hold no head and can become one, and there is room for more
pub record IsOpen (bytes : List ℕ) : Type 0 where
  pub none : HasNoRequest bytes
  pub unended : MayBecomeRequest bytes
  pub room : length bytes < LONGEST_HEAD

-- some bytes came from the source, as many as it passed, and stand behind those before
pub record ReceivesBytes (old new : List ℕ) (known left : Option (List ℕ)) (passed passed' : ℕ)
    : Type 0 where
  pub bytes : List ℕ
  pub behind : new ≡ old ++ bytes
  pub consumed : Consumes known left bytes
  pub counted : passed' ≡ passed + length bytes

-- what the spans of the parser hold of the bytes
abbrev pub asked_at : List ℕ → List HeaderSpan → RequestSpans → HeadContent
asked_at bytes fields head = record {
  method = span_bytes bytes head.method;
  target = span_bytes bytes head.path;
  fields = map (header_bytes bytes) (take head.headers fields);
}

-- what the reader holds in its buffer
abbrev pub held_at : List ℕ → List HeaderSpan → RequestSpans → HeadBuffer
held_at bytes fields head = record {
  bytes = bytes;
  asked = asked_at bytes fields head;
  rest = drop head.len bytes;
}
