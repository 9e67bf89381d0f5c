-- What a buffer holds as bytes of the file are read behind it and taken from its front.
use Rattle.std.proofs.Common.{◌≡◌, ℕ, ◌+◌, ◌-◌, ◌≤◌, min, List, [], ◌∷◌, ◌++◌, length, take, drop, IsTrue, refl, sym, ap, subst, ◌∙◌, append_assoc, arith}
use Rattle.std.proofs.Math.Seq.{take-add}
use Rattle.std.proofs.lemmas.List.{drop-take, drop-drop, length-take, length-drop, take-append-le}
use Rattle.rtp_io.specs.Outside.{Disk, SameDisk, Gives, Stays}
use Rattle.rtp_io.specs.Pulled.{Keeps, Takes}

-- the bytes from start to end
abbrev pub held : ℕ → ℕ → List ℕ → List ℕ
held start end buf = take (end - start) (drop start buf)

held_same : (start end : ℕ) (old new : List ℕ) → start ≤ end → take end new ≡ take end old → held start end new ≡ held start end old
held_same start end old new le same =
    let cut : (xs : List ℕ) → held start end xs ≡ drop start (take end xs) =
    λ xs. let k : end ≡ start + (end - start) = omega arith in subst (λ (e : ℕ). held start end xs ≡ drop start (take e xs)) (sym k) (sym (drop-take start (end - start) xs)) in
    cut new ∙ ap (drop start) same ∙ sym (cut old)

pub held_more : (start end got : ℕ) (old new : List ℕ) → start ≤ end → take end new ≡ take end old → held start (end + got) new ≡ held start end old ++ take got (drop end new)
held_more start end got old new le same =
    let k : end + got - start ≡ (end - start) + got = omega arith in
    let e : start + (end - start) ≡ end = omega arith in
    ap (λ (n : ℕ). take n (drop start new)) k ∙ take-add (end - start) got (drop start new)
    ∙ ap (λ (xs : List ℕ). held start end new ++ take got xs) (drop-drop (end - start) start new ∙ ap (λ (n : ℕ). drop n new) e)
    ∙ ap (λ (xs : List ℕ). xs ++ take got (drop end new)) (held_same start end old new le same)

pub keeps_at_start : (xs : List ℕ) (disk : Disk) → Keeps xs xs disk disk
keeps_at_start xs disk = record { same = record { told = refl; may_open = refl; contents = refl }; coming = λ t. refl; opened = λ t. refl }

same_on : (a b c : Disk) → SameDisk a b → SameDisk b c → SameDisk a c
same_on a b c p q = record { told = q.told ∙ p.told; may_open = q.may_open ∙ p.may_open; contents = q.contents ∙ p.contents }

told_on : (a b : Disk) → SameDisk a b → IsTrue a.told → IsTrue b.told
told_on a b p t = subst IsTrue (sym p.told) t

-- a piece came in behind
pub keeps_read : (start end got : ℕ) (first old new : List ℕ) (a b c : Disk) → start ≤ end → take end new ≡ take end old
    → Keeps first (held start end old) a b → SameDisk b c → (IsTrue b.told → Gives (take got (drop end new)) b c) → Keeps first (held start (end + got) new) a c
keeps_read start end got first old new a b c le same kept disk given =
    record {
      same = same_on a b c kept.same disk;
      coming = λ t.
          let g = given (told_on a b kept.same t) in
          ap (λ (xs : List ℕ). xs ++ c.left) (held_more start end got old new le same) ∙ append_assoc (held start end old) (take got (drop end new)) c.left
          ∙ ap (λ (xs : List ℕ). held start end old ++ xs) (sym g.front) ∙ kept.coming t;
      opened = λ t. (given (told_on a b kept.same t)).opened ∙ kept.opened t;
    }

-- a read failed
pub keeps_failed : (start end : ℕ) (first old new : List ℕ) (a b c : Disk) → start ≤ end → take end new ≡ take end old
    → Keeps first (held start end old) a b → SameDisk b c → (IsTrue b.told → Stays b c) → Keeps first (held start end new) a c
keeps_failed start end first old new a b c le same kept disk stays =
    record {
      same = same_on a b c kept.same disk;
      coming = λ t.
          let s = stays (told_on a b kept.same t) in
          ap (λ (xs : List ℕ). xs ++ c.left) (held_same start end old new le same) ∙ ap (λ (xs : List ℕ). held start end old ++ xs) s.left ∙ kept.coming t;
      opened = λ t. (stays (told_on a b kept.same t)).opened ∙ kept.opened t;
    }

-- the file gave nothing
pub ended : (got : ℕ) (piece : List ℕ) (b c : Disk) → got ≡ 0 → length piece ≡ got → SameDisk b c → (IsTrue b.told → Gives piece b c) → IsTrue c.told → c.left ≡ []
ended got piece b c none len disk given t =
    let g = given (subst IsTrue disk.told t) in
    let nothing : piece ≡ [] = nil piece (len ∙ none) in
    sym (g.front ∙ ap (λ (xs : List ℕ). xs ++ c.left) nothing) ∙ g.none (len ∙ none)
  where
    nil : (xs : List ℕ) → length xs ≡ 0 → xs ≡ []
    nil [] e = refl
    nil (x ∷ xs) e = absurd (omega arith)

-- n bytes were taken from the front of what is held
pub takes_front : (start end n : ℕ) (first buf : List ℕ) (a b : Disk) → n ≤ end - start → end ≤ length buf → Keeps first (held start end buf) a b → Takes (take n (drop start buf)) first (held (start + n) end buf) a b
takes_front start end n first buf a b le bound kept =
    let k : n + (end - (start + n)) ≡ end - start = omega arith in
    let parts : held start end buf ≡ take n (drop start buf) ++ held (start + n) end buf =
    ap (λ (m : ℕ). take m (drop start buf)) (sym k) ∙ take-add n (end - (start + n)) (drop start buf)
    ∙ ap (λ (xs : List ℕ). take n (drop start buf) ++ take (end - (start + n)) xs) (drop-drop n start buf) in
    record {
      same = kept.same;
      coming = λ t. sym (kept.coming t) ∙ ap (λ (xs : List ℕ). xs ++ b.left) parts ∙ append_assoc (take n (drop start buf)) (held (start + n) end buf) b.left;
      opened = kept.opened;
    }

-- the held bytes at the front
pub held_rotated : (start end : ℕ) (buf : List ℕ) → start ≤ end → end ≤ length buf → take (end - start) (drop start buf ++ take start buf) ≡ held start end buf
held_rotated start end buf le bound = take-append-le (end - start) (drop start buf) (take start buf) (omega (arith, length-drop start buf))

pub length-held : (start end : ℕ) (buf : List ℕ) → end ≤ length buf → length (held start end buf) ≡ end - start
length-held start end buf bound = length-take (end - start) (drop start buf) ∙ min_is (end - start) (length (drop start buf)) (omega (arith, length-drop start buf))
  where
    min_is : (a b : ℕ) → a ≤ b → min a b ≡ a
    min_is a b le = omega arith
