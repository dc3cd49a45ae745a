-- Files in memory: the first of a name, and a read.
use Rattle.std.proofs.Common.{◌≡◌, ℕ, zero, suc, ◌+◌, ◌-◌, ◌<◌, ◌≤◌, min, List, [], ◌∷◌, ◌++◌, true, length, take, drop, get_or, refl, ◌∙◌, ap, arith, length-take, length-drop, length-append, slice_get}
use Rattle.std.proofs.Math.Seq.{take-append_seam}
use Rattle.std.proofs.lemmas.Simd.{chunk-drop}
use Rattle.std.proofs.lemmas.List.{drop_all}
use Rattle.std.specs.Option.{option_map}
use Rattle.std.specs.Str.{bytes_eq}
use Rattle.rb_edge.specs.declared.named.NamedBytes.{NamedBytes}
use Rattle.rb_edge.specs.MemSource.{file_bytes}
use Rattle.rb_edge.specs.Source.{GivesBytes}

-- where the file of an index is of the name, what is held from there on are its bytes
pub held_in-at : (files : List NamedBytes) (name : List ℕ) (i : ℕ) (f : NamedBytes) → i < length files → f ≡ get_or files i f
    → bytes_eq f.name name ≡ true → file_bytes (drop i files) name ≡ option_map (λ file. file.bytes) (slice_get files i)
held_in-at [] name i f h e t = absurd (omega arith)
held_in-at (x ∷ xs) name zero f h e t = let here : bytes_eq x.name name ≡ true = rw e at t in rw here refl
held_in-at (x ∷ xs) name (suc i) f h e t = held_in-at xs name i f (omega arith) e t

-- a read of the next bytes gives them
pub gives : (bytes left buf copied : List ℕ) (at count step : ℕ) → at ≤ length bytes → 1 ≤ step → left ≡ drop at bytes
    → count ≡ min (min (length buf) step) (length left) → copied ≡ take count left
    → GivesBytes count (copied ++ drop count buf) left (drop (at + count) bytes)
gives bytes left buf copied at count step inside some is_left is_count is_copied =
    let left_len : length left ≡ length bytes - at = ap length is_left ∙ length-drop at bytes in
    let cut : length (take count left) ≡ min count (length left) = length-take count left in
    let copied_len : length copied ≡ count = ap length is_copied ∙ omega arith in
    let front : take count (copied ++ drop count buf) ≡ copied = rw (← copied_len) (take-append_seam copied (drop (length copied) buf)) in
    let rest_len : length (drop count buf) ≡ length buf - count = length-drop count buf in
    let whole : length (copied ++ drop count buf) ≡ length copied + length (drop count buf) = length-append copied (drop count buf) in
    record {
      bytes = rw (front, is_copied, is_left) (chunk-drop at count bytes);
      at_end = λ room. ((λ none. is_left ∙ drop_all at bytes (omega arith)), (λ end. let no_left : length left ≡ 0 = ap length end in omega arith));
    }
