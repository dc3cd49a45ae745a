-- Lists of parts of a file that was read: how many there are, and that each is well numbered.
use Rattle.std.proofs.Common.{◌≡◌, ℕ, suc, ◌+◌, ◌<◌, ◌≤◌, List, [], ◌∷◌, map, length, Bool, true, Ok, refl, ap, subst, arith}
use Rattle.std.proofs.lemmas.Bool.{and_from}
use Rattle.std.proofs.lemmas.List.Sums.{sum_by-cons}
use Rattle.std.specs.List.{list_all, sum_by}
use Rattle.rb_syntax.specs.declared.token.Token.{Token}
use Rattle.rb_syntax.specs.Written.{Written, Writing, token, number, node, tokens_in, each, each_behind, some_with, any_with}
use Rattle.rb_names.specs.Numbering.{Resolved, all_of}
use Rattle.rb_names.proofs.Rising.{Right}
use Rattle.rb_names.proofs.Inverting.{then-ok, ok-is}

-- of each of a list
abbrev pub Each : {A : Type 0} → (A → Type 0) → List A → Type 0
Each P [] = Unit {0}
Each P (x ∷ xs) = P x × Each P xs

pub each-of : {A : Type 0} (P Q : A → Type 0) (f : (x : A) → P x → Q x) (xs : List A) → Each P xs → Each Q xs
each-of P Q f [] h = tt
each-of P Q f (x ∷ xs) h = (f x h.0, each-of P Q f xs h.1)

-- each test is passed
pub each-passes : {A B : Type 0} (f : A → B) (test : B → Bool) (xs : List A) → Each (λ x. test (f x) ≡ true) xs → list_all test (map f xs) ≡ true
each-passes f test [] h = refl
each-passes f test (x ∷ xs) h = and_from _ _ h.0 (each-passes f test xs h.1)

pub length-of-map : {A B : Type 0} (f : A → B) (xs : List A) → length (map f xs) ≡ length xs
length-of-map f [] = refl
length-of-map f (x ∷ xs) = ap suc (length-of-map f xs)

pub all-ok : {A : Type 0} (xs : List A) → all_of (map (λ (x : A). let r : Resolved A = Ok x in r) xs) ≡ Ok xs
all-ok [] = refl
all-ok (x ∷ xs) = rw (all-ok xs) refl

-- what stands behind a token, a number and a node
pub off-token : (total : ℕ) (t : Token) (ws : List Written) → Right total (token t ∷ ws) → Right total ws
off-token total t ws r = record { formed = r.formed; numbers = r.numbers; fits = omega (arith, r.fits) }

pub off-number : (total at : ℕ) (ws : List Written) → Right total (number at ∷ ws) → Right total ws
off-number total at ws r = record { formed = r.formed; numbers = r.numbers.1; fits = r.fits }

pub off-node : (total l : ℕ) (ws : List Written) → Right total (node l ∷ ws) → Right total ws
off-node total l ws r = record { formed = r.formed; numbers = r.numbers; fits = r.fits }

pub right-as : (total : ℕ) {ws vs : List Written} → ws ≡ vs → Right total ws → Right total vs
right-as total e r = subst (λ us. Right total us) e r

-- Parts of one kind, that are numbered so and written so. What is numbered has a size, and is good.
module _ (total : ℕ) (A B : Type 0) (find : A → Resolved B) (size : B → ℕ) (Good : B → Type 0) (w : A → Writing) where
  pub record Is (a : A) (rest : List Written) : Type 0 where
    pub right : Right total rest
    pub shorter : length (tokens_in rest) < length (tokens_in (w a rest))
    pub well : (b : B) → find a ≡ Ok b → (size b + length (tokens_in rest) < length (tokens_in (w a rest))) × Good b

  abbrev pub Fine : A → Type 0
  Fine a = (rest : List Written) → Right total (w a rest) → Is a rest

  -- a part that is written as these
  pub is-as : (a : A) (rest vs : List Written) → w a rest ≡ vs → Right total rest → length (tokens_in rest) < length (tokens_in vs)
      → ((b : B) → find a ≡ Ok b → (size b + length (tokens_in rest) < length (tokens_in vs)) × Good b) → Is a rest
  is-as a rest vs e r s g = record { right = r; shorter = rw e s; well = λ b f. (rw e ((g b f).0), (g b f).1) }

  -- what is numbered from such parts in so many tokens
  pub record AreWell (xs : List A) (bs : List B) (before behind : ℕ) : Type 0 where
    pub same : length bs ≡ length xs
    pub few : length xs + sum_by size bs + behind ≤ before
    pub good : Each Good bs

  pub record Are (xs : List A) (ws rest : List Written) : Type 0 where
    pub right : Right total rest
    pub count : length xs + length (tokens_in rest) ≤ length (tokens_in ws)
    pub well : (bs : List B) → all_of (map find xs) ≡ Ok bs → AreWell xs bs (length (tokens_in ws)) (length (tokens_in rest))

  found : (a : A) (xs : List A) (all : List B) → all_of (map find (a ∷ xs)) ≡ Ok all
      → (b : B) × (bs : List B) × (find a ≡ Ok b) × (all_of (map find xs) ≡ Ok bs) × (b ∷ bs ≡ all)
  found a xs all e =
      let x = then-ok (find a) _ all e in
      let y = then-ok (all_of (map find xs)) _ all x.2 in
      (x.0, y.0, x.1, y.1, ok-is (x.0 ∷ y.0) all y.2)

  none : (rest : List Written) → Right total rest → Are [] rest rest
  none rest r = record { right = r; count = omega arith; well = λ bs e. rw (← ok-is [] bs e) (record { same = refl; few = omega arith; good = tt }) }

  joined : (a : A) (xs : List A) (mid rest : List Written) → Is a mid → Are xs mid rest → Are (a ∷ xs) (w a mid) rest
  joined a xs mid rest x y = record {
    right = y.right;
    count = omega (arith, x.shorter, y.count);
    well = λ all e.
        let f = found a xs all e in
        let p = x.well f.0 f.2 in
        let q = y.well f.1 f.3 in
        rw (← f.4) (record { same = ap suc q.same; few = omega (arith, p.0, q.few, sum_by-cons size f.0 f.1); good = (p.1, q.good) });
  }

  wider : (xs : List A) (ws vs rest : List Written) → length (tokens_in ws) ≤ length (tokens_in vs) → Are xs ws rest → Are xs vs rest
  wider xs ws vs rest h a = record {
    right = a.right;
    count = omega (arith, h, a.count);
    well = λ bs e. let v = a.well bs e in record { same = v.same; few = omega (arith, h, v.few); good = v.good };
  }

  pub are-each : (xs : List A) → Each Fine xs → (rest : List Written) → Right total (each (map w xs) rest) → Are xs (each (map w xs) rest) rest
  are-each [] h rest r = none rest r
  are-each (a ∷ xs) h rest r =
      let x : Is a (each (map w xs) rest) = h.0 (each (map w xs) rest) r in
      joined a xs (each (map w xs) rest) rest x (are-each xs h.1 rest x.right)

  pub are-behind : (t : Token) (xs : List A) → Each Fine xs → (rest : List Written) → Right total (each_behind t (map w xs) rest)
      → Are xs (each_behind t (map w xs) rest) rest
  are-behind t [] h rest r = none rest r
  are-behind t (a ∷ xs) h rest r =
      let mid : List Written = each_behind t (map w xs) rest in
      let x : Is a mid = h.0 mid (off-token total t (w a mid) r) in
      wider (a ∷ xs) (w a mid) (token t ∷ w a mid) rest (omega arith) (joined a xs mid rest x (are-behind t xs h.1 rest x.right))

  pub are-any : (t : Token) (xs : List A) → Each Fine xs → (rest : List Written) → Right total (any_with t (map w xs) rest)
      → Are xs (any_with t (map w xs) rest) rest
  are-any t [] h rest r = none rest r
  are-any t (a ∷ xs) h rest r =
      let mid : List Written = each_behind t (map w xs) rest in
      let x : Is a mid = h.0 mid r in
      joined a xs mid rest x (are-behind t xs h.1 rest x.right)

  pub are-some : (t : Token) (xs : List A) → Each Fine xs → (rest : List Written) → Right total (some_with t (map w xs) rest)
      → (0 < length xs) × Are xs (some_with t (map w xs) rest) rest
  are-some t [] h rest r = absurd r.formed
  are-some t (a ∷ xs) h rest r = (omega arith, are-any t (a ∷ xs) h rest r)
