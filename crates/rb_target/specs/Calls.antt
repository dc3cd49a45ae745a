-- What a call is, and what it keeps. In `enter funs depth f words w` the function with the number f is called with
-- some words in the world w, and calls are nested at most `depth` deep.
use Rattle.std.specs.Prelude.{◌≡◌, ℕ, suc, List}
use Rattle.rb_bytes.specs.Memory.{IsGood}
use Rattle.rb_target.specs.declared.outcome.End.TheVariants.{Returned, Spent}
use Rattle.rb_target.specs.declared.code.CodeFun.{CodeFun}
use Rattle.rb_target.specs.Meaning.{World, over, from, enter, body_of, first_slots, with_left}

-- How calls of these functions go, whatever f is.
pub record CallLaws (funs : List CodeFun) : Type 0 where
  -- a call is spent where none is left
  pub none : (depth f : ℕ) (words : List ℕ) (w : World) → w.left ≡ 0 → enter funs depth f words w ≡ over Spent w
  -- else the function's body is gone through from its first instruction on, with its words in the first slots and one
  -- call less, and its own calls are nested one less deep
  pub one : (depth f n : ℕ) (words : List ℕ) (w : World) → w.left ≡ suc n
      → enter funs (suc depth) f words w
      ≡ from (body_of funs f) (enter funs depth) 0 (first_slots funs f words) (with_left w n)
  -- a call that returns tells how many calls are left then
  pub tells : (depth f left : ℕ) (words results : List ℕ) (w : World)
      → (enter funs depth f words w).ended ≡ Returned results left
      → left ≡ (enter funs depth f words w).world.left

-- a call of any of these functions, at any depth and however it ends, keeps a good memory good
abbrev pub KeepGood : List CodeFun → Type 0
KeepGood funs =
    (depth f : ℕ) (words : List ℕ) (w : World) → IsGood w.memory → IsGood (enter funs depth f words w).world.memory
