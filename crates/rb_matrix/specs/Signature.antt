-- Signatures, complete and incomplete, as Maranget calls them. A head is a number or a constructor with which a value
-- begins. Heads are a complete signature of a type where each value of the type begins with one of them. They are an
-- incomplete one where some value begins with none: a pattern is absent from it then, one that matches only values
-- that begin with none of the heads. Which of these patterns is given is told here. A plain pattern is one of numbers,
-- constructors and wildcards. A layer is the outermost node of a value, with its subvalues below it.
use Rattle.std.specs.Prelude.{◌≡◌, ℕ, ◌<◌, List, [], ◌∷◌, length, Bool, true, false, Option, Some, None, slice_get}
use Rattle.rb_core.specs.declared.value.Value.{Value, out-Value}
use Rattle.rb_core.specs.declared.value.Value.TheOpen as V
use Rattle.rb_core.specs.declared.value.Value.TheOpen.{Value-F}
use Rattle.rb_core.specs.declared.types.Ty.{Ty}
use Rattle.rb_core.specs.declared.types.Ty.TheVariants.{Int, Named}
use Rattle.rb_core.specs.declared.types.DataDecl.{DataDecl}
use Rattle.rb_core.specs.declared.pattern.Pat.{Pat}
use Rattle.rb_core.specs.declared.pattern.Pat as Pats
use Rattle.rb_core.specs.Matching.{matches_of}
use Rattle.rb_core.specs.Values.{fields_in, is_of_type}
use Rattle.rb_matrix.specs.declared.matrix.Head.{Head}
use Rattle.rb_matrix.specs.Heads.{any_begins}
use Rattle.rb_matrix.specs.Search.{is_plain}
use Rattle.rb_matrix.specs.Specialize.{wilds}

-- n is the least number that does not pass a test, which tells of each number whether it is among some
pub record IsFirstOut (among : ℕ → Bool) (n : ℕ) : Type 0 where
  pub out : among n ≡ false
  pub before : (m : ℕ) → m < n → among m ≡ true

-- a number pattern, of the least number that is none of the heads; whether a type holds that number is not asked
abbrev pub IsLeastNumber : List Head → Pat → Type 0
IsLeastNumber hs q = (n : ℕ) × (q ≡ Pats.Num 0 n) × IsFirstOut (λ m. any_begins hs (V.Num m)) n

-- a constructor pattern, of the first constructor of data type t that is none of the heads, with a wildcard for each
-- field; the type that a head's constructor names is not looked at
abbrev pub IsFirstCon : List DataDecl → ℕ → List Head → Pat → Type 0
IsFirstCon types t hs q =
    (k : ℕ) × (ts : List Ty) × (fields_in (slice_get types t) k ≡ Some ts)
    × (q ≡ Pats.Con 0 (record { ty = t; con = k }) (wilds (length ts)))
    × IsFirstOut (λ c. any_begins hs (V.Con c [])) k

-- the absent pattern that is given: a wildcard where there is no head, and else the least number or the first
-- constructor that is none of the heads
abbrev pub IsFirstAbsent : List DataDecl → Ty → List Head → Pat → Type 0
IsFirstAbsent types ty [] q = q ≡ Pats.Wild 0
IsFirstAbsent types (Int bits) (h ∷ hs) q = IsLeastNumber (h ∷ hs) q
IsFirstAbsent types (Named t) (h ∷ hs) q = IsFirstCon types t (h ∷ hs) q

-- a pattern that is absent: it is plain and matches a value of the type, and no value of the type that begins in one
-- of some ways, which are given by a test of a value's layer
pub record IsAbsent (types : List DataDecl) (ty : Ty) (begun : Value-F Value → Bool) (q : Pat) : Type 0 where
  pub plain : is_plain types q ty ≡ true
  pub value : Value
  pub typed : is_of_type types value ty ≡ true
  pub matched : matches_of q value ≡ true
  pub apart : (v : Value) → is_of_type types v ty ≡ true → matches_of q v ≡ true → begun (out-Value v) ≡ false

-- what is answered of heads: None where each value of the type begins with one of them, so that they are a complete
-- signature, and else a pattern that is absent: it is plain and matches a value of the type, and none that begins with
-- one of the heads
abbrev pub IsAbsentAnswer : List DataDecl → Ty → List Head → Option Pat → Type 0
IsAbsentAnswer types ty hs None = (v : Value) → is_of_type types v ty ≡ true → any_begins hs (out-Value v) ≡ true
IsAbsentAnswer types ty hs (Some q) = IsAbsent types ty (any_begins hs) q
