-- The numbers that the program answers by: its statuses, and the faults in its lines. Codes that are refused have 20
-- to 23, traps 30 to 32, and images that are refused 40 to 44 and 46. A slot of a function holds a word while it
-- runs, and a target is the instruction at which a function goes on. The root words of an image are those of a value
-- itself, and its blocks are what pointers lead to.
use Rattle.std.specs.Prelude.{ℕ}
use Rattle.rb_bytes.specs.declared.fault.Trap.{Trap}
use Rattle.rb_bytes.specs.declared.fault.Trap.TheVariants.{Astray, Unwritten, Unmatched}
use Rattle.rb_lines.specs.declared.status.Status.{Status}
use Rattle.rb_lines.specs.declared.status.Status.TheVariants as status

-- The exit status of each named one. Status 0 is that of a printed text, and 8 that of a failed write; neither has a
-- name here.
abbrev pub status_number : Status → ℕ
status_number status.Syntax = 1
status_number status.Meaning = 2
status_number status.Layout = 3
status_number status.Spent = 4
status_number status.Full = 5
status_number status.Usage = 6
status_number status.Unread = 7
status_number status.NoMemory = 9
status_number status.Argument = 10
status_number status.Limit = 11
status_number status.Trap = 12
status_number status.TooLarge = 13
status_number status.Code = 14
status_number status.Image = 16

-- the number of the fault of bytes that are no code text
abbrev pub code_syntax : ℕ
code_syntax = 20

-- the number of the fault of a slot that a function has not got, or of a number of slots that does not fit
abbrev pub bad_slot : ℕ
bad_slot = 21

-- the number of the fault of a target that is no later instruction, or of a body that does not end in a return
abbrev pub bad_jump : ℕ
bad_jump = 22

-- the number of the fault of a call of no function, or of a call or a return whose numbers of arguments and results
-- do not fit
abbrev pub bad_call : ℕ
bad_call = 23

-- the number of a trap: of an access astray, of an unwritten byte, or of a word that a switch has no arm for
abbrev pub trap_number : Trap → ℕ
trap_number (Astray base offset) = 30
trap_number (Unwritten address) = 31
trap_number (Unmatched word) = 32

-- the number of the fault of bytes that are no image text
abbrev pub image_syntax : ℕ
image_syntax = 40

-- the number of the fault of a block out of its place
abbrev pub image_block : ℕ
image_block = 41

-- the number of the fault of a root word that is missing, too many or too wide
abbrev pub bad_root : ℕ
bad_root = 42

-- the number of the fault of a word with bits that no value has
abbrev pub bad_bits : ℕ
bad_bits = 43

-- the number of the fault of a pointer to no block of the wanted size, to no word that a split asks for, or, from
-- within a block, to one that is not lower
abbrev pub bad_pointer : ℕ
bad_pointer = 44

-- the number of the fault of a path with a step that names no field
abbrev pub no_such_part : ℕ
no_such_part = 46
