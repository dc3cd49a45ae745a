-- Code as text: of each function a line with its name and numbers, a line for each instruction, and the line
-- `end`. One blank stands between two words of a line.
--
-- Texts are lists of bytes. A line is its first word, the other words of the line, each after a blank, and the byte
-- 10. The first word of an instruction's line is its key, as `const`; the others of such a line are of the type
-- `LineWord`.
use Rattle.std.specs.Prelude.{ℕ, List, [], ◌∷◌, ◌++◌, map, codes, Option, Some, None}
use Rattle.std.specs.Fmt.{decimal}
use Rattle.rb_target.specs.declared.instr.AluOp.{AluOp}
use Rattle.rb_target.specs.declared.instr.AluOp.TheVariants.{Add, Sub, Mul, And, Or, Xor, Eq, Lt}
use Rattle.rb_target.specs.declared.instr.SwitchArm.{SwitchArm}
use Rattle.rb_target.specs.declared.instr.Instr.{Instr}
use Rattle.rb_target.specs.declared.instr.Instr.TheVariants.{Const, Copy, Alu, Take, Put, Load, Store, Place, Jump, Switch, Call, Return}
use Rattle.rb_target.specs.declared.word.Key.{Key}
use Rattle.rb_target.specs.declared.word.Key.TheVariants as key
use Rattle.rb_target.specs.declared.word.LineWord.{LineWord}
use Rattle.rb_target.specs.declared.word.LineWord.TheVariants.{Number, Op, Dash, Of}
use Rattle.rb_target.specs.declared.code.CodeFun.{CodeFun}

-- an operation's name, as the first word behind `alu` has it
abbrev pub op_text : AluOp → List ℕ
op_text Add = codes "add"
op_text Sub = codes "sub"
op_text Mul = codes "mul"
op_text And = codes "and"
op_text Or = codes "or"
op_text Xor = codes "xor"
op_text Eq = codes "eq"
op_text Lt = codes "lt"

-- a word's bytes: a number in decimal, an operation's name, `-` or `of`
abbrev pub line_word_text : LineWord → List ℕ
line_word_text (Number n) = decimal n
line_word_text (Op op) = op_text op
line_word_text Dash = codes "-"
line_word_text Of = codes "of"

-- a key's bytes
abbrev pub key_text : Key → List ℕ
key_text key.Const = codes "const"
key_text key.Copy = codes "copy"
key_text key.Alu = codes "alu"
key_text key.Take = codes "take"
key_text key.Put = codes "put"
key_text key.Load = codes "load"
key_text key.Store = codes "store"
key_text key.Place = codes "place"
key_text key.Jump = codes "jump"
key_text key.Switch = codes "switch"
key_text key.Call = codes "call"
key_text key.Return = codes "return"

-- the key of an instruction's line
abbrev pub key_of : Instr → Key
key_of (Const d c) = key.Const
key_of (Copy d a) = key.Copy
key_of (Alu op n d a b) = key.Alu
key_of (Take d a o l) = key.Take
key_of (Put d a o l) = key.Put
key_of (Load d a offset width) = key.Load
key_of (Store a offset width v) = key.Store
key_of (Place d size align) = key.Place
key_of (Jump t) = key.Jump
key_of (Switch a other arms) = key.Switch
key_of (Call f ds froms) = key.Call
key_of (Return froms) = key.Return

-- numbers as words, in their order
abbrev pub numbers : List ℕ → List LineWord
numbers ns = map (λ n. Number n) ns

-- a switch's arms as words, two for each in their order: the number and its target
abbrev pub pairs : List SwitchArm → List LineWord
pairs [] = []
pairs (arm ∷ arms) = Number arm.number ∷ Number arm.target ∷ pairs arms

-- the word for a switch's other target: its number, or a dash where there is none
abbrev pub other_word : Option ℕ → LineWord
other_word None = Dash
other_word (Some t) = Number t

-- the words of an instruction's line after the first: its parts in their order, with `of` in a call between the slots
-- for the results and those of its words
abbrev pub line_words : Instr → List LineWord
line_words (Const d c) = Number d ∷ Number c ∷ []
line_words (Copy d a) = Number d ∷ Number a ∷ []
line_words (Alu op n d a b) = Op op ∷ Number n ∷ Number d ∷ Number a ∷ Number b ∷ []
line_words (Take d a o l) = Number d ∷ Number a ∷ Number o ∷ Number l ∷ []
line_words (Put d a o l) = Number d ∷ Number a ∷ Number o ∷ Number l ∷ []
line_words (Load d a offset width) = Number d ∷ Number a ∷ Number offset ∷ Number width ∷ []
line_words (Store a offset width v) = Number a ∷ Number offset ∷ Number width ∷ Number v ∷ []
line_words (Place d size align) = Number d ∷ Number size ∷ Number align ∷ []
line_words (Jump t) = Number t ∷ []
line_words (Switch a other arms) = Number a ∷ other_word other ∷ pairs arms
line_words (Call f ds froms) = Number f ∷ numbers ds ++ Of ∷ numbers froms
line_words (Return froms) = numbers froms

-- the bytes of some words, each after a blank; none for no words
abbrev pub spaced_text : List LineWord → List ℕ
spaced_text [] = []
spaced_text (w ∷ ws) = 32 ∷ line_word_text w ++ spaced_text ws

-- a line, from its first word's bytes and its other words
abbrev pub line : List ℕ → List LineWord → List ℕ
line first ws = first ++ spaced_text ws ++ 10 ∷ []

-- an instruction's line
abbrev pub instr_text : Instr → List ℕ
instr_text i = line (key_text (key_of i)) (line_words i)

-- a function's first line: `fun`, its name, and its numbers of parameters, results and slots
abbrev pub head_text : CodeFun → List ℕ
head_text f = codes "fun " ++ line f.name (Number f.params ∷ Number f.results ∷ Number f.slots ∷ [])

-- the lines of a body, one an instruction; empty for no instruction
abbrev pub body_text : List Instr → List ℕ
body_text [] = []
body_text (i ∷ is) = instr_text i ++ body_text is

-- a function's lines: its first, those of its body, and the line `end`
abbrev pub fun_text : CodeFun → List ℕ
fun_text f = head_text f ++ body_text f.body ++ line (codes "end") []

-- the text of some functions, one behind the other; empty for none
abbrev pub code_text : List CodeFun → List ℕ
code_text [] = []
code_text (f ∷ fs) = fun_text f ++ code_text fs
