-- Reading a code text byte by byte. A gap is a byte between words, a blank (32) or a line's end (10). A spot is
-- where reading stands between two words: what is read of the function at hand, and of the line. A word and the
-- gap behind it make a move from one spot to the next, end a function, or are refused.
use Rattle.std.specs.Prelude.{◌≡◌, ℕ, List, [], ◌∷◌, ◌++◌, length, codes, Bool, true, false, ◌&&◌, ◌||◌, ◌==◌, nat_eq, nat_lt, if◌then◌else◌, Option, Some, None, Result, Ok, Err}
use Rattle.std.specs.List.{starts_with}
use Rattle.std.specs.Cmp.Lexicographic.{pointwise}
use Rattle.rb_core.specs.WellNumbered.{is_small, is_word_byte}
use Rattle.rb_target.specs.Stopping.{IsTextOf, StopsAt}
use Rattle.rb_target.specs.declared.fault.CodeFault.{CodeFault}
use Rattle.rb_target.specs.declared.fault.CodeFault.TheVariants.{CodeSyntax, Memory}
use Rattle.rb_target.specs.inner.Fields.{number_of_word, is_open, word_in, is_word_front, is_key_front, key_of_word, next_field, may_end, first_line, after_word, instruction_of}
use Rattle.rb_target.specs.declared.word.LineWord.{LineWord}
use Rattle.rb_target.specs.declared.code.CodeFun.{CodeFun}
use Rattle.rb_target.specs.declared.word.Key.{Key}
use Rattle.rb_target.specs.declared.read.spot.Turn.{Turn}
use Rattle.rb_target.specs.declared.read.spot.Turn.TheVariants.{First, Second, Third}
use Rattle.rb_target.specs.declared.read.spot.Line.{Line}
use Rattle.rb_target.specs.declared.read.spot.Spot.{Spot}
use Rattle.rb_target.specs.declared.read.spot.Spot.TheVariants.{Outside, Naming, Heading, Starting, Within}
use Rattle.rb_target.specs.declared.read.spot.Move.{Move}
use Rattle.rb_target.specs.declared.read.spot.Move.TheVariants.{To, Closed, Refused}

-- whether a byte is a gap
abbrev pub is_gap : ℕ → Bool
is_gap b = (b == 32) || (b == 10)

-- the function of a name of which no count and no instruction is read
abbrev pub function_of_name : List ℕ → CodeFun
function_of_name name = record { name = name; params = 0; results = 0; slots = 0; body = [] }

-- a word and the byte behind it -----------------------------------------------------------------

-- the move behind a word of an instruction's line l in the function f, by the gap g: a blank where a word may
-- follow, or a line's end where the line may end, which adds the line's instruction to f; else refused
abbrev pub line_next : CodeFun → Line → ℕ → Move
line_next f l g =
    if (g == 32) && is_open (next_field l.rest) then To (Within f l)
    else (if (g == 10) && may_end l.rest
    then To (Starting (record f { body = f.body ++ instruction_of l.key l.words ∷ [] })) else Refused)

-- the move behind the word `end` of the function f, by the gap g, which must be a line's end
abbrev pub end_move : CodeFun → ℕ → Move
end_move f g = if g == 10 then Closed f else Refused

-- the move behind a line's first word in the function f, by the gap g and the key that the word is; refused where
-- it is none
abbrev pub start_move : CodeFun → ℕ → Option Key → Move
start_move f g None = Refused
start_move f g (Some k) = line_next f (first_line k) g

-- the move behind one word more of the line l in the function f, by the gap g; refused where no word was read
-- that may stand there
abbrev pub word_move : CodeFun → Line → ℕ → Option LineWord → Move
word_move f l g None = Refused
word_move f l g (Some w) = line_next f (after_word l w) g

-- the move behind one of the three counts of the function f, t saying which, by the gap g: a blank, or a line's
-- end behind the third; refused where the word is no number
abbrev pub count_move : CodeFun → Turn → ℕ → Option ℕ → Move
count_move f t g None = Refused
count_move f First g (Some n) = if g == 32 then To (Heading (record f { params = n }) Second) else Refused
count_move f Second g (Some n) = if g == 32 then To (Heading (record f { results = n }) Third) else Refused
count_move f Third g (Some n) = if g == 10 then To (Starting (record f { slots = n })) else Refused

-- the move of a word w and the gap g behind it, from a spot; an empty word is refused everywhere
abbrev pub step : Spot → List ℕ → ℕ → Move
step Outside w g = if (g == 32) && pointwise nat_eq w (codes "fun") then To Naming else Refused
step Naming w g = if (g == 32) && nat_lt 0 (length w) then To (Heading (function_of_name w) First) else Refused
step (Heading f t) w g = count_move f t g (number_of_word w)
step (Starting f) w g = if pointwise nat_eq w (codes "end") then end_move f g else start_move f g (key_of_word w)
step (Within f l) w g = word_move f l g (word_in (next_field l.rest) w)

-- a byte of a word ------------------------------------------------------------------------------

-- whether there is a number
abbrev pub is_some : Option ℕ → Bool
is_some None = false
is_some (Some n) = true

-- whether some word that may stand at a spot begins as w does; b is the last byte of w
abbrev pub goes_on : Spot → List ℕ → ℕ → Bool
goes_on Outside w b = starts_with nat_eq (codes "fun") w
goes_on Naming w b = if length w == 1 then is_small b else is_word_byte b
goes_on (Heading f t) w b = is_some (number_of_word w)
goes_on (Starting f) w b = starts_with nat_eq (codes "end") w || is_key_front w
goes_on (Within f l) w b = is_word_front (next_field l.rest) w

-- what is read: whole functions, and the front of a word --------------------------------------------

-- the functions that are read whole, the spot behind them, and the bytes of the next word that are read
pub record Progress : Type 0 where
  pub funs : List CodeFun
  pub spot : Spot
  pub word : List ℕ

-- the progress where nothing is read
abbrev pub start : Progress
start = record { funs = []; spot = Outside; word = [] }

-- the progress behind a move, where these functions were whole before; None where it is refused
abbrev pub progress_behind : List CodeFun → Move → Option Progress
progress_behind funs (To spot) = Some (record { funs = funs; spot = spot; word = [] })
progress_behind funs (Closed f) = Some (record { funs = funs ++ f ∷ []; spot = Outside; word = [] })
progress_behind funs Refused = None

-- the progress with one byte more of a word, or None where no word begins so
abbrev pub progress_with_byte : Progress → ℕ → Option Progress
progress_with_byte p b =
    if goes_on p.spot (p.word ++ b ∷ []) b then Some (record p { word = p.word ++ b ∷ [] }) else None

-- the progress with one byte more, or None where it is refused
abbrev pub feed : Progress → ℕ → Option Progress
feed p b = if is_gap b then progress_behind p.funs (step p.spot p.word b) else progress_with_byte p b

-- the progress with one byte more, or None where there is none or the byte is refused
abbrev pub then_feed : Option Progress → ℕ → Option Progress
then_feed None b = None
then_feed (Some p) b = feed p b

-- the progress behind some bytes more; None where one of them is refused, or there is no progress before them
abbrev pub run : Option Progress → List ℕ → Option Progress
run o [] = o
run o (b ∷ bs) = run (then_feed o b) bs

-- whether reading stands outside of functions
abbrev pub is_outside : Spot → Bool
is_outside Outside = true
is_outside spot = false

-- whether what is read is a whole text: it ends behind a function, or nothing is read
abbrev pub is_done : Progress → Bool
is_done p = is_outside p.spot && (length p.word == 0)

-- the progress p is what a byte leaves, where it was read; else the byte leaves none
abbrev pub IsFed : Option Progress → Progress → Bool → Type 0
IsFed o p true = o ≡ Some p
IsFed o p false = o ≡ None

-- what reading all bytes may answer: the progress behind them, the number of the first byte that is refused, or
-- want of memory; no other fault
abbrev pub IsRun : List ℕ → Result Progress CodeFault → Type 0
IsRun bytes (Ok p) = run (Some start) bytes ≡ Some p
IsRun bytes (Err (CodeSyntax at)) = StopsAt bytes at
IsRun bytes (Err Memory) = Unit {0}
IsRun bytes (Err fault) = ⊥

-- what reading the bytes may answer: the functions whose text they are, the number of the byte at which no code text
-- goes on, or want of memory; no other fault
abbrev pub IsCodeReading : List ℕ → Result (List CodeFun) CodeFault → Type 0
IsCodeReading bytes (Ok funs) = IsTextOf bytes funs
IsCodeReading bytes (Err (CodeSyntax at)) = StopsAt bytes at
IsCodeReading bytes (Err Memory) = Unit {0}
IsCodeReading bytes (Err fault) = ⊥
