-- Worked examples of the meaning, which the checker computes.
use Rattle.std.proofs.Common.{◌≡◌, ℕ, List, [], ◌∷◌, replicate, None, refl}
use Rattle.rb_bytes.specs.Memory.{Memory, load_of, store_of}
use Rattle.rb_bytes.specs.declared.fault.Trap.TheVariants.{Astray, Unwritten, Unmatched}
use Rattle.rb_target.specs.Meaning.{over, alu_of, from, enter, run_of}
use Rattle.rb_target.specs.declared.outcome.End.{End}
use Rattle.rb_target.specs.declared.outcome.End.TheVariants.{Returned, Spent, Full as Filled, Trapped}
use Rattle.rb_target.specs.declared.instr.AluOp.TheVariants.{Add, Sub, Mul, Lt}
use Rattle.rb_target.specs.declared.instr.Instr.{Instr}
use Rattle.rb_target.specs.declared.instr.Instr.TheVariants.{Const, Alu, Load, Store, Place, Switch, Call, Return}
use Rattle.rb_target.specs.declared.code.CodeFun.{CodeFun}

wraps_at_eight : alu_of Add 8 250 6 ≡ 0
wraps_at_eight = refl

borrows_at_eight : alu_of Sub 8 3 5 ≡ 254
borrows_at_eight = refl

multiplies_at_four : alu_of Mul 4 5 5 ≡ 9
multiplies_at_four = refl

compares_whole_words : alu_of Lt 8 300 1 ≡ 0
compares_whole_words = refl

alone : ℕ → ℕ → ℕ → List Instr → List CodeFun
alone params results slots body = record { name = 116 ∷ []; params = params; results = results; slots = slots; body = body } ∷ []

small : ℕ → Memory
small limit = record { limit = limit; next = 64; blocks = []; bytes = replicate limit None }

result_of : List CodeFun → ℕ → List ℕ → ℕ → End
result_of funs calls words limit = (run_of funs calls 0 words (small limit)).ended

-- a word, 8 bytes, behind a block's address by one: astray
astray : result_of (alone 0 1 2 (Const 1 1 ∷ Place 0 16 8 ∷ Alu Add 64 0 0 1 ∷ Load 1 0 0 64 ∷ Return (1 ∷ []) ∷ [])) 1 [] 100 ≡ Trapped (Astray 65 0)
unfolding alone small result_of enter from load_of
astray = refl

unwritten : result_of (alone 0 1 2 (Place 0 16 8 ∷ Load 1 0 8 64 ∷ Return (1 ∷ []) ∷ [])) 1 [] 100 ≡ Trapped (Unwritten 72)
unfolding alone small result_of enter from load_of
unwritten = refl

-- what is stored is loaded, little-endian
stored : result_of (alone 1 1 2 (Place 1 4 4 ∷ Store 1 0 32 0 ∷ Load 0 1 1 16 ∷ Return (0 ∷ []) ∷ [])) 1 (67305985 ∷ []) 100 ≡ Returned (770 ∷ []) 0
unfolding alone small result_of enter from load_of store_of
stored = refl

full : result_of (alone 0 0 1 (Place 0 16 8 ∷ Place 0 20 16 ∷ Return [] ∷ [])) 1 [] 99 ≡ Filled (record { next = 80; size = 20; align = 16; limit = 99 })
unfolding alone small result_of enter from
full = refl

by_number : List CodeFun
by_number = alone 1 1 1 (Switch 0 None (record { number = 3; target = 1 } ∷ []) ∷ Return (0 ∷ []) ∷ [])

-- the switch and the return are counted, and so is the one switch
matched : run_of by_number 1 0 (3 ∷ []) (small 64) ≡ over (Returned (3 ∷ []) 0) (record { left = 0; memory = small 64; switches = 1; taken = 2 })
unfolding alone by_number enter from
matched = refl

unmatched : run_of by_number 1 0 (5 ∷ []) (small 64) ≡ over (Trapped (Unmatched 5)) (record { left = 0; memory = small 64; switches = 1; taken = 1 })
unfolding alone by_number enter from
unmatched = refl

forever : List CodeFun
forever = alone 0 0 0 (Call 0 [] [] ∷ Return [] ∷ [])

-- three calls, each with one call instruction, the last of which finds none left
spent : run_of forever 3 0 [] (small 64) ≡ over Spent (record { left = 0; memory = small 64; switches = 0; taken = 3 })
unfolding alone forever enter from
spent = refl
