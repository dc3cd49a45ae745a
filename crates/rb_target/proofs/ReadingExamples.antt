-- Worked examples of reading, which the checker computes.
use Rattle.std.proofs.Common.{◌≡◌, ℕ, List, [], ◌∷◌, ◌++◌, codes, true, false, arith, Some, None, refl}
use Rattle.rb_target.specs.inner.Fields.{word_in, is_word_front, fields, behind_field, fields_after, may_end, first_line, after_word, instruction_of}
use Rattle.rb_target.proofs.StopLemmas.{stops_here, stops_at_end}
use Rattle.rb_target.specs.Stopping.{StopsAt}
use Rattle.rb_target.specs.inner.Reading.{Progress, step, goes_on, function_of_name}
use Rattle.rb_target.specs.declared.instr.AluOp.TheVariants.{Add}
use Rattle.rb_target.specs.declared.instr.Instr.TheVariants.{Call, Return}
use Rattle.rb_target.specs.declared.word.LineWord.TheVariants.{Number, Op, Of}
use Rattle.rb_target.specs.declared.word.Key.TheVariants as key
use Rattle.rb_target.specs.declared.read.spot.Field.TheVariants.{Any, FromOne, Width, Range, OrOf}
use Rattle.rb_target.specs.declared.read.spot.Spot.TheVariants.{Starting, Within}
use Rattle.rb_target.specs.declared.read.spot.Move.TheVariants.{Closed, Refused}

-- `6` can go on to a number of bits, and `65` can't
six_goes_on : is_word_front (FromOne 64) (codes "6") ≡ true
six_goes_on = refl

sixty_five_ends : is_word_front (FromOne 64) (codes "65") ≡ false
sixty_five_ends = refl

-- a zero stands alone
zero_alone : is_word_front Any (codes "01") ≡ false
zero_alone = refl

-- 3 is no width, but begins one; 24 neither
three_begins_a_width : is_word_front Width (codes "3") ≡ true
three_begins_a_width = refl

three_is_no_width : word_in Width (codes "3") ≡ None
three_is_no_width = refl

no_width : is_word_front Width (codes "24") ≡ false
no_width = refl

-- a range stays within the word: from bit 60 on at most four
long_range : behind_field Range [] (Number 60) ≡ FromOne 4 ∷ []
long_range = refl

of_or_number : word_in OrOf (codes "of") ≡ Some Of
of_or_number = refl

-- keys begin alike
shared_front : goes_on (Starting (function_of_name (codes "t"))) (codes "co") 111 ≡ true
shared_front = refl

no_key : goes_on (Starting (function_of_name (codes "t"))) (codes "cop2") 50 ≡ false
no_key = refl

-- a jump wants its target before the line's end
jump_open : may_end (fields key.Jump) ≡ false
jump_open = refl

-- a call is whole behind `of`
call_whole : may_end (fields_after (fields_after (fields key.Call) (Number 0)) Of) ≡ true
call_whole = refl

-- the words of a whole line make its instruction
call_built : instruction_of key.Call (Number 2 ∷ Number 5 ∷ Of ∷ Number 0 ∷ Number 1 ∷ []) ≡ Call 2 (5 ∷ []) (0 ∷ 1 ∷ [])
call_built = refl

closed : step (Starting (function_of_name (codes "t"))) (codes "end") 10 ≡ Closed (function_of_name (codes "t"))
closed = refl

no_blank_behind_end : step (Starting (function_of_name (codes "t"))) (codes "end") 32 ≡ Refused
no_blank_behind_end = refl

-- whole texts
wide_operation : List ℕ
wide_operation = codes "fun t 0 0 1" ++ (10 ∷ codes "alu add 65 0 0 0")

before_five : Progress
before_five = record {
  funs = [];
  spot = Within (record { name = codes "t"; params = 0; results = 0; slots = 1; body = [] }) (after_word (first_line key.Alu) (Op Add));
  word = codes "6";
}

stops_at_five : StopsAt wide_operation 21
unfolding wide_operation before_five
stops_at_five = stops_here wide_operation 21 0 before_five (omega arith) refl refl

cut_off : List ℕ
cut_off = codes "fun t 0 0 0" ++ (10 ∷ codes "return" ++ (10 ∷ codes "en"))

before_end : Progress
before_end = record { funs = []; spot = Starting (record { name = codes "t"; params = 0; results = 0; slots = 0; body = Return [] ∷ [] }); word = codes "en" }

stops_at_its_length : StopsAt cut_off 21
unfolding cut_off before_end
stops_at_its_length = stops_at_end cut_off before_end refl refl
