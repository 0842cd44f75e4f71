-- The words of the command line, and the command that they spell.
use Rattle.std.specs.Prelude.{◌≡◌, ℕ, ◌+◌, ◌-◌, ◌*◌, ◌≤◌, ◌&&◌, not, ◌==◌, nat_le, List, [], ◌∷◌, length, All, Bool, Option, Some, None, IsSome, is_some, Result, Ok, Err, if◌then◌else◌, codes}
use Rattle.std.specs.List.{slice_split, list_all, filter_map}
use Rattle.std.specs.Str.{bytes_eq}
use Rattle.term_core.specs.Characters.{is_digit}
use Rattle.term_core.specs.Numbers.{is_empty}
use Rattle.plan_tree.specs.Pages.{AreQuanta}
use Rattle.sage.specs.declared.words.Command.{Command}
use Rattle.sage.specs.declared.words.Command.TheVariants.{Try, Build, Info}
use Rattle.sage.specs.declared.words.WordsFault.{WordsFault}
use Rattle.sage.specs.declared.words.WordsFault.TheVariants as faults

-- The value of the digits read so far and of those to come. With one more digit, a number past 1,000 is past 10,000.
abbrev pub value_on : ℕ → List ℕ → Option ℕ
value_on n [] = Some n
value_on n (b ∷ bs) = if is_digit b && nat_le n 1000 then value_on (10 * n + (b - 48)) bs else None

-- a number from 1 to 10,000
abbrev pub up_to_limit : Option ℕ → Option ℕ
up_to_limit None = None
up_to_limit (Some n) = if nat_le 1 n && nat_le n 10000 then Some n else None

-- a quantum: decimal digits without a leading zero, of a number from 1 to 10,000
abbrev pub quantum_of : List ℕ → Option ℕ
quantum_of [] = None
quantum_of (b ∷ bs) = if b == 48 then None else up_to_limit (value_on 0 (b ∷ bs))

-- the texts between the commas of a word: one more than it has commas
abbrev pub pieces_of : List ℕ → List (List ℕ)
pieces_of word = slice_split (λ b. b == 44) word

-- the pieces of what is left of a word
abbrev pub pieces_left : Option (List ℕ) → List (List ℕ)
pieces_left None = []
pieces_left (Some rest) = pieces_of rest

-- whether a piece is a quantum
abbrev pub is_quantum : List ℕ → Bool
is_quantum piece = is_some (quantum_of piece)

-- a list of quanta: from 1 to 64 of them, with a comma between each two
abbrev pub are_quanta : List ℕ → Bool
are_quanta word = list_all is_quantum (pieces_of word) && nat_le (length (pieces_of word)) 64

-- the quanta of such a list, in their order
abbrev pub quanta_of : List ℕ → Option (List ℕ)
quanta_of word = if are_quanta word then Some (filter_map quantum_of (pieces_of word)) else None

-- `try` with the quanta that its option gives, if it gives some
abbrev pub try_with : List ℕ → List ℕ → Option (List ℕ) → Option Command
try_with document query None = None
try_with document query (Some quanta) = Some (Try document query quanta)

-- no option, where each page has 1,000 steps, or `--quanta` and a list of quanta
abbrev pub quanta_from : List (List ℕ) → Option (List ℕ)
quanta_from [] = Some (1000 ∷ [])
quanta_from (option ∷ []) = None
quanta_from (option ∷ value ∷ []) = if bytes_eq option (codes "--quanta") then quanta_of value else None
quanta_from (option ∷ value ∷ more ∷ options) = None

-- `try`: the names of the document and of the query, then the options
abbrev pub try_of : List ℕ → List ℕ → List (List ℕ) → Option Command
try_of document query options = if not (is_empty document) && not (is_empty query) then try_with document query (quanta_from options) else None

-- `build`: the names of the document and of the store file, and no option
abbrev pub build_of : List ℕ → List ℕ → List (List ℕ) → Option Command
build_of document store [] = if not (is_empty document) && not (is_empty store) then Some (Build document store) else None
build_of document store (option ∷ options) = None

-- `info`: the name of the store file
abbrev pub info_of : List ℕ → Option Command
info_of store = if not (is_empty store) then Some (Info store) else None

-- The command that the words spell: its name, the names of its files, then the options.
abbrev pub command_of : List (List ℕ) → Option Command
command_of [] = None
command_of (word ∷ []) = None
command_of (word ∷ store ∷ []) = if bytes_eq word (codes "info") then info_of store else None
command_of (word ∷ document ∷ name ∷ options) =
    if bytes_eq word (codes "try") then try_of document name options else (if bytes_eq word (codes "build") then build_of document name options else None)

-- what reading words answers: what they spell, or that it is nothing; memory can run out only where it is something
abbrev pub Spells : {T : Type 0} → Result T WordsFault → Option T → Type 0
Spells (Ok x) spelled = spelled ≡ Some x
Spells (Err faults.Words) spelled = spelled ≡ None
Spells (Err faults.Memory) spelled = IsSome spelled

-- from 1 to 64 quanta, each from 1 to 10,000
pub record AreAllowedQuanta (quanta : List ℕ) : Type 0 where
  pub are : AreQuanta quanta
  pub few : length quanta ≤ 64
  pub short : All (λ quantum. quantum ≤ 10000) quanta

-- the quanta of a command are within their limits
abbrev pub HasQuanta : Command → Type 0
HasQuanta (Try document query quanta) = AreAllowedQuanta quanta
HasQuanta (Build document store) = Unit {0}
HasQuanta (Info store) = Unit {0}
