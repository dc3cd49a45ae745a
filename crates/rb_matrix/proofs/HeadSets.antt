-- Sets of heads.
use Rattle.std.proofs.Common.{◌≡◌, ℕ, false, ◌||◌, ◌==◌, sym, ap, ◌∙◌}
use Rattle.std.proofs.Math.Bool.{or-false}
use Rattle.rb_core.specs.declared.value.Value.{Value}
use Rattle.rb_core.specs.declared.value.Value.TheOpen as V
use Rattle.rb_core.specs.declared.value.Value.TheOpen.{Value-F}
use Rattle.rb_core.specs.declared.types.ConRef.{ConRef}
use Rattle.rb_matrix.specs.declared.head_set.HeadSet.{HeadSet}
use Rattle.rb_matrix.specs.declared.matrix.Head.TheVariants as H
use Rattle.rb_matrix.specs.Heads.{layer_begins}
use Rattle.rb_matrix.specs.Known.{has, holds}

pub none-held : (s : HeadSet) → ((n : ℕ) → has s.numbers n ≡ false) → ((k : ℕ) → has s.cons k ≡ false) → (l : Value-F Value) → holds s l ≡ false
none-held s numbers cons (V.Num n) = numbers n
none-held s numbers cons (V.Con k vs) = cons k

-- one set after the other, in which the numbers or the constructors grew
module _ (s t : HeadSet) where
  pub number-more : (m : ℕ) → ((n : ℕ) → has t.numbers n ≡ (has s.numbers n || (m == n))) → t.cons ≡ s.cons → (l : Value-F Value) → holds t l ≡ (holds s l || layer_begins (H.Num m) l)
  number-more m more same (V.Num n) = more n
  number-more m more same (V.Con k vs) = ap (λ c. has c k) same ∙ sym (or-false (has s.cons k))

  pub con-more : (c : ConRef) → ((k : ℕ) → has t.cons k ≡ (has s.cons k || (c.con == k))) → t.numbers ≡ s.numbers → (l : Value-F Value) → holds t l ≡ (holds s l || layer_begins (H.Con c) l)
  con-more c more same (V.Num n) = ap (λ m. has m n) same ∙ sym (or-false (has s.numbers n))
  con-more c more same (V.Con k vs) = more k

  pub none-more : ((n : ℕ) → has t.numbers n ≡ has s.numbers n) → ((k : ℕ) → has t.cons k ≡ has s.cons k) → (l : Value-F Value) → holds t l ≡ holds s l
  none-more numbers cons (V.Num n) = numbers n
  none-more numbers cons (V.Con k vs) = cons k
