-- Tokens have one answer as a file.
use Rattle.std.proofs.Common.{◌≡◌, ◌⊎◌, inl, inr, ℕ, zero, suc, ◌-◌, ◌<◌, ◌≤◌, List, [], ◌∷◌, ◌++◌, length, take, Option, Some, None, Result, Ok, Err, refl, sym, ◌∙◌, ap, subst, arith, append_assoc}
use Rattle.std.proofs.Math.Nat.{eq-or-lt_of_le, le_antisymm}
use Rattle.std.proofs.Math.Seq.{take-length}
use Rattle.std.proofs.lemmas.Bool.{cases_order}
use Rattle.std.proofs.lemmas.List.{append-nil}
use Rattle.rb_syntax.specs.declared.token.Token.{Token}
use Rattle.rb_syntax.specs.declared.tree.FileTree.{FileTree}
use Rattle.rb_read.specs.declared.fault.ReadFault.{ReadFault}
use Rattle.rb_read.specs.declared.fault.ReadFault.TheVariants.{TooDeep, Syntax, Limit, Memory}
use Rattle.rb_read.specs.declared.limits.Count.{Count}
use Rattle.rb_read.specs.inner.Combining.{Fault, stuck, deep}
use Rattle.rb_read.specs.Exact.{IsSpelled, StopsAt, IsFirstTooDeep, IsNowhereTooDeep}
use Rattle.rb_read.specs.inner.Ending.{IsPrefix}
use Rattle.rb_read.specs.Limits.{first_over}
use Rattle.rb_read.specs.Files.{IsFile, IsFileAnswer, AnswersFile}
use Rattle.rb_read.proofs.FileReading.{file_of, read-ok, read-only, read-stuck, read-deep}

-- No file goes on at one token alone.

split-take : (p q : ℕ) (ts : List Token) → p ≤ q → (between : List Token) × (take q ts ≡ take p ts ++ between)
split-take zero q ts l = (take q ts, refl)
split-take (suc p) zero ts l = absurd (omega arith)
split-take (suc p) (suc q) [] l = ([], refl)
split-take (suc p) (suc q) (t ∷ ts) l = let w = split-take p q ts (omega arith) in (w.0, ap (λ us. t ∷ us) w.1)

prefix-less : (ts : List Token) (p q : ℕ) → p ≤ q → IsPrefix (take q ts) → IsPrefix (take p ts)
prefix-less ts p q l pre =
    let w = split-take p q ts l in
    let e : take q ts ++ pre.0 ≡ take p ts ++ (w.0 ++ pre.0) = ap (λ us. us ++ pre.0) w.1 ∙ append_assoc (take p ts) w.0 pre.0 in
    (w.0 ++ pre.0, subst (λ us. IsSpelled us) e pre.1)

stops-later : (ts : List Token) (p q : ℕ) → StopsAt ts p → StopsAt ts q → p < q → ⊥
stops-later ts p q h k l = let w : q ≤ length ts = k.within in h.here (omega arith) (prefix-less ts (suc p) q (omega arith) k.before)

one-stop : (ts : List Token) (p q : ℕ) → StopsAt ts p → StopsAt ts q → p ≡ q
one-stop ts p q h k = by_order (cases_order p q) where
  by_order : (p ≡ q) ⊎ ((p < q) ⊎ (q < p)) → p ≡ q
  by_order (inl e) = e
  by_order (inr (inl l)) = absurd (stops-later ts p q h k l)
  by_order (inr (inr l)) = absurd (stops-later ts q p k h l)

stops-whole : (ts : List Token) (p : ℕ) → StopsAt ts p → IsSpelled ts → ⊥
stops-whole ts p h s = by_order (eq-or-lt_of_le h.within) where
  all : IsPrefix (take (length ts) ts)
  all = ([], subst (λ us. IsSpelled us) (sym (append-nil (take (length ts) ts) ∙ take-length ts)) s)

  by_order : (p ≡ length ts) ⊎ (p < length ts) → ⊥
  by_order (inl e) = h.at_end e s
  by_order (inr l) = h.here l (prefix-less ts (suc p) (length ts) (omega arith) all)

first-deep : (ts : List Token) (p q : ℕ) → IsFirstTooDeep ts p → IsFirstTooDeep ts q → p ≡ q
first-deep ts p q h k = le_antisymm (h.is_first q k.too_deep) (k.is_first p h.too_deep)

-- What is answered, by what the readers give.

by_counts : FileTree → Option Count → Result FileTree ReadFault
by_counts file (Some c) = Err (Limit c.quantity c.count)
by_counts file None = Ok file

by_reading : List Token → Result FileTree Fault → Result FileTree ReadFault
by_reading ts (Ok file) = by_counts file (first_over file)
by_reading ts (Err (stuck m)) = Err (Syntax (length ts - m))
by_reading ts (Err (deep m)) = Err (TooDeep (length ts - m))

deep-answer : (ts : List Token) (p : ℕ) (r : Result FileTree Fault) → file_of ts ≡ r → IsFirstTooDeep ts p → Err (TooDeep p) ≡ by_reading ts r
unfolding by_reading
deep-answer ts p (Ok file) e h = let o = read-ok ts file e in absurd (o.2 p h.too_deep)
deep-answer ts p (Err (stuck m)) e h = let o = read-stuck ts m e in absurd (o.1 p h.too_deep)
deep-answer ts p (Err (deep m)) e h = ap (λ n. Err (TooDeep n)) (first-deep ts p (length ts - m) h (read-deep ts m e))

stuck-answer : (ts : List Token) (p : ℕ) (r : Result FileTree Fault) → file_of ts ≡ r → IsNowhereTooDeep ts → StopsAt ts p → Err (Syntax p) ≡ by_reading ts r
unfolding by_reading
stuck-answer ts p (Ok file) e n h = let o = read-ok ts file e in absurd (stops-whole ts p h (file, o.0.spells, o.0.formed))
stuck-answer ts p (Err (stuck m)) e n h = let o = read-stuck ts m e in ap (λ q. Err (Syntax q)) (one-stop ts p (length ts - m) h o.0)
stuck-answer ts p (Err (deep m)) e n h = let o = read-deep ts m e in absurd (n (length ts - m) o.too_deep)

file-answer : (ts : List Token) (file : FileTree) (c : Option Count) → IsFile ts file → first_over file ≡ c → by_counts file c ≡ by_reading ts (file_of ts)
unfolding by_counts by_reading
file-answer ts file c h l = let e = read-only ts file h.tree h.within in rw (e, l) refl

the-answer : (ts : List Token) (r : Result FileTree ReadFault) → IsFileAnswer ts r → r ≡ by_reading ts (file_of ts)
unfolding by_counts
the-answer ts (Ok file) h = file-answer ts file None h.0 h.1
the-answer ts (Err (TooDeep p)) h = deep-answer ts p (file_of ts) refl h
the-answer ts (Err (Syntax p)) h = stuck-answer ts p (file_of ts) refl h.0 h.1
the-answer ts (Err (Limit q n)) h = file-answer ts h.0 (Some (record { quantity = q; count = n })) h.1 h.2
the-answer ts (Err Memory) h = absurd h

one-answer : (ts : List Token) (r q : Result FileTree ReadFault) → IsFileAnswer ts r → IsFileAnswer ts q → r ≡ q
one-answer ts r q h k = the-answer ts r h ∙ sym (the-answer ts q k)

-- what is answered is that answer, or want of memory
pub answered : (ts : List Token) (result r : Result FileTree ReadFault) → AnswersFile ts result → IsFileAnswer ts r → (result ≡ r) ⊎ (result ≡ Err Memory)
answered ts (Ok file) r h k = inl (one-answer ts (Ok file) r h k)
answered ts (Err (TooDeep p)) r h k = inl (one-answer ts (Err (TooDeep p)) r h k)
answered ts (Err (Syntax p)) r h k = inl (one-answer ts (Err (Syntax p)) r h k)
answered ts (Err (Limit q n)) r h k = inl (one-answer ts (Err (Limit q n)) r h k)
answered ts (Err Memory) r h k = inr refl
