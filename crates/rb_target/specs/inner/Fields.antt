-- The words of an instruction's line: what each of them may be, and the instruction that they spell together.
--
-- A line's first word is its key, which says by a table which fields follow. A field says what one word may be. Once
-- a word is read in a field, the next of the table comes; but an offset of bits leaves a field for the length that
-- fits behind it, and an item of a list leaves one for an item more.
use Rattle.std.specs.Prelude.{ℕ, ◌-◌, ◌%◌, ◌^◌, List, [], ◌∷◌, ◌++◌, map, codes, Bool, true, false, ◌&&◌, ◌||◌, ◌==◌, nat_eq, nat_le, if◌then◌else◌, Option, Some, None, find, slice_get, drop}
use Rattle.std.specs.List.{starts_with, list_any, fold}
use Rattle.std.specs.Cmp.Lexicographic.{pointwise}
use Rattle.rb_bytes.specs.Memory.{most_block}
use Rattle.rb_core.specs.Decimal.{number_in}
use Rattle.rb_target.specs.Text.{op_text, key_text}
use Rattle.rb_target.specs.Validity.{most_offset}
use Rattle.rb_target.specs.declared.instr.AluOp.{AluOp}
use Rattle.rb_target.specs.declared.instr.AluOp.TheVariants.{Add, Sub, Mul, And, Or, Xor, Eq, Lt}
use Rattle.rb_target.specs.declared.instr.SwitchArm.{SwitchArm}
use Rattle.rb_target.specs.declared.instr.Instr.{Instr}
use Rattle.rb_target.specs.declared.instr.Instr.TheVariants.{Const, Copy, Alu, Take, Put, Load, Store, Place, Jump, Switch, Call, Return}
use Rattle.rb_target.specs.declared.word.LineWord.{LineWord}
use Rattle.rb_target.specs.declared.word.LineWord.TheVariants.{Number, Op, Dash, Of}
use Rattle.rb_target.specs.declared.word.Key.{Key}
use Rattle.rb_target.specs.declared.word.Key.TheVariants as key
use Rattle.rb_target.specs.declared.read.spot.Field.{Field}
use Rattle.rb_target.specs.declared.read.spot.Field.TheVariants.{Any, Upto, FromOne, Width, Align, Range, Operation, OrDash, Pairs, Target, OrOf, Slots, Nothing}
use Rattle.rb_target.specs.declared.read.spot.Line.{Line}
use Rattle.rb_target.specs.declared.read.line.Lists.{Lists}
use Rattle.rb_target.specs.declared.read.line.Arms.{Arms}

-- Words ----------------------------------------------------------------------------------------

-- the number below 2^64 that a word spells, in decimal without a leading zero, or None if it spells none
abbrev pub number_of_word : List ℕ → Option ℕ
number_of_word w = number_in 0 (2 ^ 64 - 1) w

-- whether a number below 2^64 may stand in a field; a field where just a name may stand, or no word, has none
abbrev pub has : Field → ℕ → Bool
has (Upto high) n = nat_le n high
has (FromOne high) n = nat_le 1 n && nat_le n high
has Width n = (n == 8) || (n == 16) || (n == 32) || (n == 64)
has Align n = (n == 1) || (n == 2) || (n == 4) || (n == 8) || (n == 16) || (n == 32) || (n == 64)
has Range n = nat_le n 63
has Operation n = false
has Nothing n = false
has f n = true

-- whether a number may not stand in a field, but digits behind it can make one that may: so it is of widths and
-- alignments alone, since each front of a number within bounds from 0 or 1 on is within them
abbrev pub leads : Field → ℕ → Bool
leads Width n = (n == 1) || (n == 3) || (n == 6)
leads Align n = (n == 3) || (n == 6)
leads f n = false

-- whether some word may stand in a field: in each but Nothing; FromOne 0, where none may, is no field of any line
abbrev pub is_open : Field → Bool
is_open Nothing = false
is_open f = true

-- every operation
abbrev pub ops : List AluOp
ops = Add ∷ Sub ∷ Mul ∷ And ∷ Or ∷ Xor ∷ Eq ∷ Lt ∷ []

-- the operation that is written so, or None if none is
abbrev pub op_of_word : List ℕ → Option AluOp
op_of_word w = find (λ o. pointwise nat_eq (op_text o) w) ops

-- whether some operation's name begins with these bytes, or is them
abbrev pub is_op_front : List ℕ → Bool
is_op_front w = list_any (λ o. starts_with nat_eq (op_text o) w) ops

-- an operation as a word, where there is one
abbrev pub op_word : Option AluOp → Option LineWord
op_word None = None
op_word (Some op) = Some (Op op)

-- the word that is written so and is no number, if it may stand in a field; else None
abbrev pub named_word : Field → List ℕ → Option LineWord
named_word Operation w = op_word (op_of_word w)
named_word OrDash w = if pointwise nat_eq w (codes "-") then Some Dash else None
named_word OrOf w = if pointwise nat_eq w (codes "of") then Some Of else None
named_word f w = None

-- the word that is written so, if it may stand in a field; else None. The number that the bytes spell, or None where
-- they spell none, is given with them
abbrev pub numbered_word : Field → List ℕ → Option ℕ → Option LineWord
numbered_word f w (Some n) = if has f n then Some (Number n) else None
numbered_word f w None = named_word f w

-- the word that is written so, if it may stand in a field; else None, as for the empty word
abbrev pub word_in : Field → List ℕ → Option LineWord
word_in f w = numbered_word f w (number_of_word w)

-- whether some word that is no number and may stand in a field begins with these bytes, or is them
abbrev pub named_front : Field → List ℕ → Bool
named_front Operation w = is_op_front w
named_front OrDash w = starts_with nat_eq (codes "-") w
named_front OrOf w = starts_with nat_eq (codes "of") w
named_front f w = false

-- whether some word that may stand in a field begins with these bytes, which are not empty, or is them; the number
-- that they spell, or None where they spell none, is given with them
abbrev pub numbered_front : Field → List ℕ → Option ℕ → Bool
numbered_front f w (Some n) = has f n || leads f n
numbered_front f w None = named_front f w

-- whether some word that may stand in a field begins with these bytes, which are not empty, or is them
abbrev pub is_word_front : Field → List ℕ → Bool
is_word_front f w = numbered_front f w (number_of_word w)

-- Keys -----------------------------------------------------------------------------------------

-- every key; `end`, which stands in a line of its own, is none
abbrev pub keys : List Key
keys =
    key.Const ∷ key.Copy ∷ key.Alu ∷ key.Take ∷ key.Put ∷ key.Load ∷ key.Store ∷ key.Place ∷ key.Jump ∷ key.Switch
    ∷ key.Call ∷ key.Return ∷ []

-- the key that is written so, or None if none is
abbrev pub key_of_word : List ℕ → Option Key
key_of_word w = find (λ k. pointwise nat_eq (key_text k) w) keys

-- whether some key begins with these bytes, or is them
abbrev pub is_key_front : List ℕ → Bool
is_key_front w = list_any (λ k. starts_with nat_eq (key_text k) w) keys

-- Lines ----------------------------------------------------------------------------------------

-- the table of fields: what the words behind a key may be, one field after the other. For a list it has the field of
-- an item; the field of a length of bits is not in it, as the offset before says how great a length may be
abbrev pub fields : Key → List Field
fields key.Const = Any ∷ Any ∷ []
fields key.Copy = Any ∷ Any ∷ []
fields key.Alu = Operation ∷ FromOne 64 ∷ Any ∷ Any ∷ Any ∷ []
fields key.Take = Any ∷ Any ∷ Range ∷ []
fields key.Put = Any ∷ Any ∷ Range ∷ []
fields key.Load = Any ∷ Any ∷ Upto most_offset ∷ Width ∷ []
fields key.Store = Any ∷ Upto most_offset ∷ Width ∷ Any ∷ []
fields key.Place = Any ∷ FromOne most_block ∷ Align ∷ []
fields key.Jump = Any ∷ []
fields key.Switch = Any ∷ OrDash ∷ Pairs ∷ []
fields key.Call = Any ∷ OrOf ∷ Slots ∷ []
fields key.Return = Slots ∷ []

-- the next word's field, the first of those to come; Nothing at the end
abbrev pub next_field : List Field → Field
next_field [] = Nothing
next_field (f ∷ fs) = f

-- the fields to come behind a word in the field f, where the fields fs come behind that: behind the offset n of bits
-- a length from 1 to 64 - n, behind an arm's number its target, behind that perhaps one arm more, behind a slot of a
-- list perhaps one more, where only `of` ends the list of results of a call; else just fs
abbrev pub behind_field : Field → List Field → LineWord → List Field
behind_field Range fs (Number n) = FromOne (64 - n) ∷ fs
behind_field Pairs fs w = Target ∷ fs
behind_field Target fs w = Pairs ∷ fs
behind_field OrOf fs (Number n) = OrOf ∷ fs
behind_field Slots fs w = Slots ∷ fs
behind_field f fs w = fs

-- the fields to come behind one word more, in the first of these; none where none are left
abbrev pub fields_after : List Field → LineWord → List Field
fields_after [] w = []
fields_after (f ∷ fs) w = behind_field f fs w

-- whether a line may end before these fields: where none are left, or a list may go on that needs no item more; so
-- not between an arm's number and its target, nor in a call before `of`
abbrev pub may_end : List Field → Bool
may_end [] = true
may_end (Pairs ∷ fs) = true
may_end (Slots ∷ fs) = true
may_end (f ∷ fs) = false

-- the line behind its key, of which no other word is read
abbrev pub first_line : Key → Line
first_line k = record { key = k; words = []; rest = fields k }

-- the line with one word more, which may stand in the next field
abbrev pub after_word : Line → LineWord → Line
after_word l w = record { key = l.key; words = l.words ++ w ∷ []; rest = fields_after l.rest w }

-- Instructions ---------------------------------------------------------------------------------

-- the number that a word is, or 0 for a word that is no number
abbrev pub value_of : LineWord → ℕ
value_of (Number n) = n
value_of w = 0

-- the number that a word is, or 0 if there is no word or it is no number
abbrev pub value_or_zero : Option LineWord → ℕ
value_or_zero None = 0
value_or_zero (Some w) = value_of w

-- the number at a place among the words, from 0 on
abbrev pub number_at : List LineWord → ℕ → ℕ
number_at ws k = value_or_zero (slice_get ws k)

-- the number at a place as a byte: its last eight bits, which are the whole number in a whole line, as numbers of
-- bits, offsets and lengths of bits and widths are at most 64 there
abbrev pub byte_at : List LineWord → ℕ → ℕ
byte_at ws k = number_at ws k % 256

-- the operation that a word is, or Add if there is no word or it is none
abbrev pub op_in : Option LineWord → AluOp
op_in (Some (Op op)) = op
op_in o = Add

-- the other target of a switch that a word is, or None if there is no word or it is no number, as `-`
abbrev pub other_in : Option LineWord → Option ℕ
other_in (Some (Number n)) = Some n
other_in o = None

-- the arms with n behind them, where that is an arm's number, or its target if the arm's number was read before
abbrev pub arms_with_number : List SwitchArm → Option ℕ → ℕ → Arms
arms_with_number arms None n = record { arms = arms; number = Some n }
arms_with_number arms (Some m) n = record { arms = arms ++ record { number = m; target = n } ∷ []; number = None }

-- the arms read so far, with one word more: the number of an arm, or the target behind it
abbrev pub arms_with_word : Arms → LineWord → Arms
arms_with_word a w = arms_with_number a.arms a.number (value_of w)

-- the arms that words spell, each a number and its target; a last number without a target is left out
abbrev pub arms_in : List LineWord → List SwitchArm
arms_in ws = (fold arms_with_word (record { arms = []; number = None }) ws).arms

-- the two lists of a call with one number more, at the end of the second where `of` was read, else of the first
abbrev pub lists_with_number : Bool → Lists → ℕ → Lists
lists_with_number true l n = record l { froms = l.froms ++ n ∷ [] }
lists_with_number false l n = record l { dests = l.dests ++ n ∷ [] }

-- the two lists of a call with one word more: `of` begins the second, and once more it changes nothing
abbrev pub lists_with_word : Lists → LineWord → Lists
lists_with_word l Of = record l { behind = true }
lists_with_word l w = lists_with_number l.behind l (value_of w)

-- the two lists that words spell, the first before `of` and the second behind it; without `of` the second is empty
abbrev pub lists_in : List LineWord → Lists
lists_in ws = fold lists_with_word (record { dests = []; froms = []; behind = false }) ws

-- the instruction that a key and the words of a whole line behind it spell; for words of no whole line, 0 stands for
-- a number that is missing and Add for an operation
abbrev pub instruction_of : Key → List LineWord → Instr
instruction_of key.Const ws = Const (number_at ws 0) (number_at ws 1)
instruction_of key.Copy ws = Copy (number_at ws 0) (number_at ws 1)
instruction_of key.Alu ws =
    Alu (op_in (slice_get ws 0)) (byte_at ws 1) (number_at ws 2) (number_at ws 3) (number_at ws 4)
instruction_of key.Take ws = Take (number_at ws 0) (number_at ws 1) (byte_at ws 2) (byte_at ws 3)
instruction_of key.Put ws = Put (number_at ws 0) (number_at ws 1) (byte_at ws 2) (byte_at ws 3)
instruction_of key.Load ws = Load (number_at ws 0) (number_at ws 1) (number_at ws 2) (byte_at ws 3)
instruction_of key.Store ws = Store (number_at ws 0) (number_at ws 1) (byte_at ws 2) (number_at ws 3)
instruction_of key.Place ws = Place (number_at ws 0) (number_at ws 1) (number_at ws 2)
instruction_of key.Jump ws = Jump (number_at ws 0)
instruction_of key.Switch ws = Switch (number_at ws 0) (other_in (slice_get ws 1)) (arms_in (drop 2 ws))
instruction_of key.Call ws =
    Call (number_at ws 0) (lists_in (drop 1 ws)).dests (lists_in (drop 1 ws)).froms
instruction_of key.Return ws = Return (map value_of ws)
