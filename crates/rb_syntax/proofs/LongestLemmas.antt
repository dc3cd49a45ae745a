-- Which pieces are the longest where they stand.
use Rattle.std.proofs.Common.{◌≡◌, ℕ, zero, suc, ◌+◌, ◌<◌, ◌≤◌, List, [], ◌∷◌, ◌++◌, length, take, drop, codes, nat_eq, Bool, true, false, cond, not, ◌||◌, ◌==◌, Some, None, refl, sym, ◌∙◌, ap, subst, arith, length-take, eqb-true, append_assoc}
use Rattle.std.specs.List.{starts_with, list_all, prefix_len}
use Rattle.std.proofs.lemmas.List.{take-append-drop}
use Rattle.std.proofs.lemmas.List.Folds.{length-prefix_len}
use Rattle.std.proofs.Math.Seq.{take-append_seam}
use Rattle.std.proofs.lemmas.List.Sums.{prefix_len-le-length}
use Rattle.rb_core.specs.WellNumbered.{is_word_byte}
use Rattle.rb_syntax.specs.declared.token.Symbol.{Symbol}
use Rattle.rb_syntax.specs.Bytes.{is_blank, is_in_line}
use Rattle.rb_syntax.specs.Words.{symbol_text, symbol_at, symbols}
use Rattle.rb_syntax.specs.Cutting.{IsGap, blank, comment, IsPiece, IsLongest}
use Rattle.rb_syntax.specs.Cutting as cut
use Rattle.rb_syntax.proofs.SymbolLemmas.{and-left, and-right, starts-is, is-starts, starts-fits, each_symbol, symbol-length, symbol-longest, symbol-none, symbol-fits, first, find-passes}

-- Tests of lists from the front on.

pub prefix-all : (p : ℕ → Bool) (xs : List ℕ) → list_all p (take (prefix_len p xs) xs) ≡ true
prefix-all p [] = refl
prefix-all p (x ∷ xs) = elim (p x) as (λ (b : Bool). p x ≡ b → list_all p (take (cond b (1 + prefix_len p xs) 0) (x ∷ xs)) ≡ true) [
  | true ↦ λ e. let k : 1 + prefix_len p xs ≡ suc (prefix_len p xs) = omega arith in rw (k, e) (prefix-all p xs)
  | false ↦ λ e. refl
] refl

pub all-prefix : (p : ℕ → Bool) (xs : List ℕ) (k : ℕ) → k ≤ length xs → list_all p (take k xs) ≡ true → k ≤ prefix_len p xs
all-prefix p xs zero h e = omega arith
all-prefix p [] (suc k) h e = absurd (omega arith)
all-prefix p (x ∷ xs) (suc k) h e =
    let a : p x ≡ true = and-left (p x) (list_all p (take k xs)) e in
    let i : k ≤ prefix_len p xs = all-prefix p xs k (omega arith) (and-right (p x) (list_all p (take k xs)) e) in
    rw a (omega arith)

pub all-first : (p : ℕ → Bool) (text : List ℕ) → 0 < length text → list_all p text ≡ true → p (first text) ≡ true
all-first p [] h e = absurd (omega arith)
all-first p (x ∷ xs) h e = and-left (p x) (list_all p xs) e

pub length-front : (k : ℕ) (xs : List ℕ) → k ≤ length xs → length (take k xs) ≡ k
length-front k xs h = simp length-take (omega arith)

pub first-take : (k b : ℕ) (bs : List ℕ) → 0 < length (take k (b ∷ bs)) → first (take k (b ∷ bs)) ≡ b
first-take zero b bs h = absurd (omega arith)
first-take (suc k) b bs h = refl

-- Kinds of bytes.

or-cases : (a b : Bool) (P : Type 0) → (a ≡ true → P) → (b ≡ true → P) → (a || b) ≡ true → P
or-cases true b P f g e = f refl
or-cases false b P f g e = g e

clash : {P : Type 0} → true ≡ false → P
clash e = cc

blank-cases : (P : ℕ → Type 0) → P 9 → P 10 → P 13 → P 32 → (b : ℕ) → is_blank b ≡ true → P b
blank-cases P tab feed return space b e =
    or-cases ((b == 9) || (b == 10) || (b == 13)) (b == 32) (P b)
    (or-cases ((b == 9) || (b == 10)) (b == 13) (P b)
    (or-cases (b == 9) (b == 10) (P b) (λ h. subst P (sym (eqb-true b 9 h)) tab) (λ h. subst P (sym (eqb-true b 10 h)) feed))
    (λ h. subst P (sym (eqb-true b 13 h)) return))
    (λ h. subst P (sym (eqb-true b 32 h)) space) e

pub blank-word : (b : ℕ) → is_blank b ≡ true → is_word_byte b ≡ false
blank-word = blank-cases (λ b. is_word_byte b ≡ false) refl refl refl refl

-- Pieces by their first byte.

comment-first : (text : List ℕ) → starts_with nat_eq text (codes "//") ≡ true → first text ≡ 47
comment-first text e = ap first (starts-is text (codes "//") e)

comment-some : (text : List ℕ) → starts_with nat_eq text (codes "//") ≡ true → 0 < length text
comment-some text e = let h : length (codes "//") ≤ length text = starts-fits text (codes "//") e in omega arith

symbol-no_gap : (s : Symbol) → not (is_blank (first (symbol_text s)) || (first (symbol_text s) == 47)) ≡ true
symbol-no_gap = each_symbol (λ t. not (is_blank (first (symbol_text t)) || (first (symbol_text t) == 47))) refl

symbol-word : (s : Symbol) → (not (is_word_byte (first (symbol_text s))) || (length (symbol_text s) == 1)) ≡ true
symbol-word = each_symbol (λ t. not (is_word_byte (first (symbol_text t))) || (length (symbol_text t) == 1)) refl

-- what a piece is at a front of bytes that begin with b
abbrev Cases : ℕ → List ℕ → List ℕ → (P : Type 0) → Type 0
Cases b bytes text P = (is_blank b ≡ true → length text ≡ 1 → P)
    → (b ≡ 47 → starts_with nat_eq bytes (codes "//") ≡ true → list_all is_in_line text ≡ true → P)
    → (is_word_byte b ≡ true → list_all is_word_byte text ≡ true → P)
    → ((s : Symbol) → text ≡ symbol_text s → first (symbol_text s) ≡ b → P) → P

front-starts : (k : ℕ) (bytes text : List ℕ) → starts_with nat_eq (take k bytes) text ≡ true → starts_with nat_eq bytes text ≡ true
front-starts k bytes text e =
    let h : take k bytes ≡ text ++ drop (length text) (take k bytes) = starts-is (take k bytes) text e in
    is-starts bytes text (drop (length text) (take k bytes) ++ drop k bytes)
    (sym (take-append-drop k bytes) ∙ ap (λ (front : List ℕ). front ++ drop k bytes) h ∙ append_assoc text (drop (length text) (take k bytes)) (drop k bytes))

front-is : (k : ℕ) (bytes text : List ℕ) → take k bytes ≡ text → starts_with nat_eq bytes text ≡ true
front-is k bytes text e = is-starts bytes text (drop k bytes) (sym (take-append-drop k bytes) ∙ ap (λ (front : List ℕ). front ++ drop k bytes) e)

pub piece-cases : (k b : ℕ) (bs : List ℕ) (P : Type 0) → IsPiece (take k (b ∷ bs)) → Cases b (b ∷ bs) (take k (b ∷ bs)) P
piece-cases k b bs P (cut.gap (blank c e t)) f g h i =
    let at : b ≡ c = sym (first-take k b bs (rw t (omega arith))) ∙ ap first t in
    f (rw at e) (ap length t)
piece-cases k b bs P (cut.gap (comment e a)) f g h i =
    let at : first (take k (b ∷ bs)) ≡ 47 = comment-first (take k (b ∷ bs)) e in
    let some : 0 < length (take k (b ∷ bs)) = comment-some (take k (b ∷ bs)) e in
    g (sym (first-take k b bs some) ∙ at) (front-starts k (b ∷ bs) (codes "//") e) a
piece-cases k b bs P (cut.run some a) f g h i =
    h (ap is_word_byte (sym (first-take k b bs some)) ∙ all-first is_word_byte (take k (b ∷ bs)) some a) a
piece-cases k b bs P (cut.symbol s t) f g h i =
    i s t (ap first (sym t) ∙ first-take k b bs (rw t (symbol-length s)))

-- The longest piece, by what stands at the front.

no_gap-blank : (s : Symbol) (b : ℕ) → first (symbol_text s) ≡ b → is_blank b ≡ true → ⊥
no_gap-blank s b e h =
    let k : not (is_blank b || (b == 47)) ≡ true = rw e at (symbol-no_gap s) in
    let g : not (true || (b == 47)) ≡ true = rw h at k in clash (sym g)

no_gap-slash : (s : Symbol) (b : ℕ) → first (symbol_text s) ≡ b → b ≡ 47 → ⊥
no_gap-slash s b e h =
    let k : not (is_blank 47 || (47 == 47)) ≡ true = rw (e, h) at (symbol-no_gap s) in clash (sym k)

word-symbol : (s : Symbol) (b : ℕ) → first (symbol_text s) ≡ b → is_word_byte b ≡ true → length (symbol_text s) ≡ 1
word-symbol s b e h =
    let k : (not (is_word_byte b) || (length (symbol_text s) == 1)) ≡ true = rw e at (symbol-word s) in
    let g : (not true || (length (symbol_text s) == 1)) ≡ true = rw h at k in
    eqb-true (length (symbol_text s)) 1 g

slash-blank : (b : ℕ) → b ≡ 47 → is_blank b ≡ true → ⊥
slash-blank b at e = let h : is_blank 47 ≡ true = rw at at e in clash (sym h)

slash-word : (b : ℕ) → b ≡ 47 → is_word_byte b ≡ true → ⊥
slash-word b at e = let h : is_word_byte 47 ≡ true = rw at at e in clash (sym h)

comment-starts : (bytes rest : List ℕ) → bytes ≡ codes "//" ++ rest → starts_with nat_eq (take (prefix_len is_in_line bytes) bytes) (codes "//") ≡ true
comment-starts bytes rest e = subst (λ (xs : List ℕ). starts_with nat_eq (take (prefix_len is_in_line xs) xs) (codes "//") ≡ true) (sym e)
    (is-starts (take (prefix_len is_in_line (codes "//" ++ rest)) (codes "//" ++ rest)) (codes "//") (take (prefix_len is_in_line rest) rest)
    (let k : 1 + (1 + prefix_len is_in_line rest) ≡ suc (suc (prefix_len is_in_line rest)) = omega arith in rw k refl))

-- the bytes of a line behind '//' are a comment
pub comment-gap : (b : ℕ) (bs : List ℕ) → starts_with nat_eq (b ∷ bs) (codes "//") ≡ true → IsGap (take (prefix_len is_in_line (b ∷ bs)) (b ∷ bs))
comment-gap b bs e =
    let h : b ∷ bs ≡ codes "//" ++ drop 2 (b ∷ bs) = starts-is (b ∷ bs) (codes "//") e in
    comment (comment-starts (b ∷ bs) (drop 2 (b ∷ bs)) h) (prefix-all is_in_line (b ∷ bs))

pub run-some : (b : ℕ) (bs : List ℕ) → is_word_byte b ≡ true → 0 < prefix_len is_word_byte (b ∷ bs)
run-some b bs e = rw e (omega arith)

pub symbol-front : (b : ℕ) (bs : List ℕ) (s : Symbol) → symbol_at (b ∷ bs) ≡ Some s → take (length (symbol_text s)) (b ∷ bs) ≡ symbol_text s
symbol-front b bs s e =
    let h : b ∷ bs ≡ symbol_text s ++ drop (length (symbol_text s)) (b ∷ bs) =
    starts-is (b ∷ bs) (symbol_text s) (find-passes (λ t. starts_with nat_eq (b ∷ bs) (symbol_text t)) symbols s e) in
    ap (λ (xs : List ℕ). take (length (symbol_text s)) xs) h ∙ take-append_seam (symbol_text s) (drop (length (symbol_text s)) (b ∷ bs))

pub blank-longest : (b : ℕ) (bs : List ℕ) → is_blank b ≡ true → IsLongest 1 (b ∷ bs)
blank-longest b bs e = record {
  inside = omega arith;
  piece = cut.gap (blank b e refl);
  longest = λ k l q. let h : length (take k (b ∷ bs)) ≤ 1 = piece-cases k b bs _ q
      (λ _ one. omega (arith, one))
      (λ at _ _. absurd (slash-blank b at e))
      (λ w _. clash (sym w ∙ blank-word b e))
      (λ s _ at. absurd (no_gap-blank s b at e)) in omega (arith, h, length-front k (b ∷ bs) l);
}

pub comment-longest : (b : ℕ) (bs : List ℕ) → starts_with nat_eq (b ∷ bs) (codes "//") ≡ true → IsLongest (prefix_len is_in_line (b ∷ bs)) (b ∷ bs)
comment-longest b bs e = record {
  inside = prefix_len-le-length is_in_line (b ∷ bs);
  piece = cut.gap (comment-gap b bs e);
  longest = λ k l q. piece-cases k b bs _ q
      (λ w _. absurd (slash-blank b (comment-first (b ∷ bs) e) w))
      (λ _ _ a. all-prefix is_in_line (b ∷ bs) k l a)
      (λ w _. absurd (slash-word b (comment-first (b ∷ bs) e) w))
      (λ s _ at. absurd (no_gap-slash s b at (comment-first (b ∷ bs) e)));
}

pub run-longest : (b : ℕ) (bs : List ℕ) → is_word_byte b ≡ true → IsLongest (prefix_len is_word_byte (b ∷ bs)) (b ∷ bs)
run-longest b bs e = record {
  inside = prefix_len-le-length is_word_byte (b ∷ bs);
  piece = cut.run (rw length-prefix_len (run-some b bs e)) (prefix-all is_word_byte (b ∷ bs));
  longest = λ k l q. piece-cases k b bs _ q
      (λ w _. clash (sym e ∙ blank-word b w))
      (λ at _ _. absurd (slash-word b at e))
      (λ _ a. all-prefix is_word_byte (b ∷ bs) k l a)
      (λ s t at. omega (arith, run-some b bs e, word-symbol s b at e, ap length t, length-front k (b ∷ bs) l));
}

pub symbol-is-longest : (b : ℕ) (bs : List ℕ) (s : Symbol) → is_blank b ≡ false → is_word_byte b ≡ false → starts_with nat_eq (b ∷ bs) (codes "//") ≡ false
    → symbol_at (b ∷ bs) ≡ Some s → IsLongest (length (symbol_text s)) (b ∷ bs)
symbol-is-longest b bs s no_blank no_word no_comment e = record {
  inside = symbol-fits (b ∷ bs) s e;
  piece = cut.symbol s (symbol-front b bs s e);
  longest = λ k l q. piece-cases k b bs _ q
      (λ w _. clash (sym w ∙ no_blank))
      (λ _ c _. clash (sym c ∙ no_comment))
      (λ w _. clash (sym w ∙ no_word))
      (λ t is _. omega (arith, symbol-longest (b ∷ bs) s t e (front-is k (b ∷ bs) (symbol_text t) is), ap length is, length-front k (b ∷ bs) l));
}

pub no-piece : (b : ℕ) (bs : List ℕ) → is_blank b ≡ false → is_word_byte b ≡ false → starts_with nat_eq (b ∷ bs) (codes "//") ≡ false
    → symbol_at (b ∷ bs) ≡ None → (n : ℕ) → IsPiece (take n (b ∷ bs)) → ⊥
no-piece b bs no_blank no_word no_comment e n q = piece-cases n b bs _ q
    (λ w _. clash (sym w ∙ no_blank))
    (λ _ c _. clash (sym c ∙ no_comment))
    (λ w _. clash (sym w ∙ no_word))
    (λ t is _. symbol-none (b ∷ bs) t e (front-is n (b ∷ bs) (symbol_text t) is))
