-- Kinds and their words.
use Rattle.std.specs.Prelude.{◌≡◌, ℕ, List, [], ◌∷◌, Option, Some, find, codes, bytes_eq}
use Rattle.vocabulary.specs.declared.kinds.Company.{Company}
use Rattle.vocabulary.specs.declared.kinds.Company.TheVariants as company
use Rattle.vocabulary.specs.declared.kinds.MeetingKind.{MeetingKind}
use Rattle.vocabulary.specs.declared.kinds.MeetingKind.TheVariants as meeting_kind
use Rattle.vocabulary.specs.declared.kinds.ResKind.{ResKind}
use Rattle.vocabulary.specs.declared.kinds.ResKind.TheVariants as resolution_kind
use Rattle.vocabulary.specs.declared.kinds.HolderKind.{HolderKind}
use Rattle.vocabulary.specs.declared.kinds.HolderKind.TheVariants as holder_kind
use Rattle.vocabulary.specs.declared.kinds.Capacity.{Capacity}
use Rattle.vocabulary.specs.declared.kinds.Capacity.TheVariants as capacity
use Rattle.vocabulary.specs.declared.kinds.Way.{Way}
use Rattle.vocabulary.specs.declared.kinds.Way.TheVariants as way
use Rattle.vocabulary.specs.declared.kinds.Instr.{Instr}
use Rattle.vocabulary.specs.declared.kinds.Instr.TheVariants as instruction

-- the word for a company
abbrev pub company_word : Company → List ℕ
company_word company.Private = codes "private"
company_word company.Public = codes "public"

-- the one whose word it is
abbrev pub company_of : List ℕ → Option Company
company_of word = find (λ x. bytes_eq word (company_word x)) (company.Private ∷ company.Public ∷ [])

-- the word for a kind of meeting
abbrev pub meeting_kind_word : MeetingKind → List ℕ
meeting_kind_word meeting_kind.Annual = codes "annual"
meeting_kind_word meeting_kind.General = codes "general"

-- the one whose word it is
abbrev pub meeting_kind_of : List ℕ → Option MeetingKind
meeting_kind_of word =
    find (λ x. bytes_eq word (meeting_kind_word x))
    (meeting_kind.Annual ∷ meeting_kind.General ∷ [])

-- the word for a kind of resolution
abbrev pub resolution_kind_word : ResKind → List ℕ
resolution_kind_word resolution_kind.Ordinary = codes "ordinary"
resolution_kind_word resolution_kind.Special = codes "special"

-- the one whose word it is
abbrev pub resolution_kind_of : List ℕ → Option ResKind
resolution_kind_of word =
    find (λ x. bytes_eq word (resolution_kind_word x))
    (resolution_kind.Ordinary ∷ resolution_kind.Special ∷ [])

-- the word for a kind of holder
abbrev pub holder_kind_word : HolderKind → List ℕ
holder_kind_word holder_kind.Individual = codes "individual"
holder_kind_word holder_kind.Corporation = codes "corporation"
holder_kind_word holder_kind.Treasury = codes "treasury"

-- the one whose word it is
abbrev pub holder_kind_of : List ℕ → Option HolderKind
holder_kind_of word =
    find (λ x. bytes_eq word (holder_kind_word x))
    (holder_kind.Individual ∷ holder_kind.Corporation ∷ holder_kind.Treasury ∷ [])

-- the word for a capacity
abbrev pub capacity_word : Capacity → List ℕ
capacity_word capacity.Member = codes "member"
capacity_word capacity.Rep = codes "rep"
capacity_word capacity.Proxy = codes "proxy"

-- the one whose word it is
abbrev pub capacity_of : List ℕ → Option Capacity
capacity_of word =
    find (λ x. bytes_eq word (capacity_word x))
    (capacity.Member ∷ capacity.Rep ∷ capacity.Proxy ∷ [])

-- the word for a way
abbrev pub way_word : Way → List ℕ
way_word way.For = codes "for"
way_word way.Against = codes "against"
way_word way.Withheld = codes "withheld"

-- the one whose word it is
abbrev pub way_of : List ℕ → Option Way
way_of word = find (λ x. bytes_eq word (way_word x)) (way.For ∷ way.Against ∷ way.Withheld ∷ [])

-- the word for an instruction
abbrev pub instruction_word : Instr → List ℕ
instruction_word instruction.For = codes "for"
instruction_word instruction.Against = codes "against"
instruction_word instruction.Withheld = codes "withheld"
instruction_word instruction.Free = codes "free"

-- the one whose word it is
abbrev pub instruction_of : List ℕ → Option Instr
instruction_of word =
    find (λ x. bytes_eq word (instruction_word x))
    (instruction.For ∷ instruction.Against ∷ instruction.Withheld ∷ instruction.Free ∷ [])

-- each word reads back as what it was written for
pub record WordsReadBack : Type 0 where
  pub company_words : (x : Company) → company_of (company_word x) ≡ Some x
  pub meeting_kind_words : (x : MeetingKind) → meeting_kind_of (meeting_kind_word x) ≡ Some x
  pub resolution_kind_words : (x : ResKind) → resolution_kind_of (resolution_kind_word x) ≡ Some x
  pub holder_kind_words : (x : HolderKind) → holder_kind_of (holder_kind_word x) ≡ Some x
  pub capacity_words : (x : Capacity) → capacity_of (capacity_word x) ≡ Some x
  pub way_words : (x : Way) → way_of (way_word x) ≡ Some x
  pub instruction_words : (x : Instr) → instruction_of (instruction_word x) ≡ Some x
