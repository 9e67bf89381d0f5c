-- Laws of what is known of files: calls one after the other.
use Rattle.std.specs.Prelude.{◌≡◌, ℕ, IsTrue, List, [], ◌++◌, length, take, drop, Option, Some, None, refl}
use Rattle.std.proofs.Common.{sym, ap, subst, ◌∙◌, append_assoc, arith}
use Rattle.std.proofs.lemmas.List.{append-nil, length-append, take_at, take-append-drop}
use Rattle.rtp_io.specs.Outside.{Disk, SameDisk, Adds, AddsFront}
use Rattle.rtp_io.specs.Pulled.{Keeps, Takes, Ends}

pub same_here : (disk : Disk) → SameDisk disk disk
same_here disk = record { told = refl; may_open = refl; contents = refl }

pub same_then : (a b c : Disk) → SameDisk a b → SameDisk b c → SameDisk a c
same_then a b c p q = record { told = q.told ∙ p.told; may_open = q.may_open ∙ p.may_open; contents = q.contents ∙ p.contents }

pub told_then : (a b : Disk) → SameDisk a b → IsTrue a.told → IsTrue b.told
told_then a b p t = subst IsTrue (sym p.told) t

pub takes_none : (held rest : List ℕ) (a b : Disk) → Keeps held rest a b → Takes [] held rest a b
takes_none held rest a b keeps = record { same = keeps.same; coming = λ t. sym (keeps.coming t); opened = keeps.opened }

pub takes_then : (p q x y z : List ℕ) (a b c : Disk) → Takes p x y a b → Takes q y z b c → Takes (p ++ q) x z a c
takes_then p q x y z a b c first second = record {
  same = same_then a b c first.same second.same;
  coming = λ t. first.coming t ∙ ap (λ (r : List ℕ). p ++ r) (second.coming (told_then a b first.same t)) ∙ sym (append_assoc p q (z ++ c.left));
  opened = λ t. second.opened (told_then a b first.same t) ∙ first.opened t;
}

pub takes_keeps : (p x y z : List ℕ) (a b c : Disk) → Takes p x y a b → Keeps y z b c → Takes p x z a c
takes_keeps p x y z a b c first second = record {
  same = same_then a b c first.same second.same;
  coming = λ t. first.coming t ∙ ap (λ (r : List ℕ). p ++ r) (sym (second.coming (told_then a b first.same t)));
  opened = λ t. second.opened (told_then a b first.same t) ∙ first.opened t;
}

-- at the end, all that came is in the buffer
pub all_here : (n have : ℕ) (held new : List ℕ) (a b : Disk) → Keeps held new a b → Ends n have new b → IsTrue a.told → held ++ a.left ≡ new
all_here n have held new a b keeps ends t =
    sym (keeps.coming t) ∙ ap (λ (r : List ℕ). new ++ r) (ends.end (told_then a b keeps.same t)) ∙ append-nil new

pub adds_none : (a : Option (List ℕ)) → Adds [] a a
adds_none None = refl
adds_none (Some xs) = sym (append-nil xs)

pub adds_then : (p q : List ℕ) (a b c : Option (List ℕ)) → Adds p a b → Adds q b c → Adds (p ++ q) a c
adds_then p q None b c first second = let is : Adds q None c = subst (λ (x : Option (List ℕ)). Adds q x c) first second in is
adds_then p q (Some xs) None c first second = silent c second
  where
    silent : (c : Option (List ℕ)) → c ≡ None → Adds (p ++ q) (Some xs) c
    silent None e = tt
    silent (Some zs) e = absurd cc
adds_then p q (Some xs) (Some ys) None first second = tt
adds_then p q (Some xs) (Some ys) (Some zs) first second = second ∙ ap (λ (l : List ℕ). l ++ q) first ∙ append_assoc xs p q

pub adds_same : (p q : List ℕ) (a b : Option (List ℕ)) → p ≡ q → Adds p a b → Adds q a b
adds_same p q a b e adds = subst (λ (l : List ℕ). Adds l a b) e adds

-- a front of what is added is a front
pub front_of : (p q : List ℕ) (a b : Option (List ℕ)) → Adds p a b → AddsFront (p ++ q) a b
front_of p q a b adds = (length p, omega (arith, length-append p q), adds_same p (take (length p) (p ++ q)) a b (sym (take_at p q (length p) refl)) adds)

pub front_then : (p q r : List ℕ) (a b c : Option (List ℕ)) → Adds p a b → AddsFront q b c → AddsFront (p ++ (q ++ r)) a c
front_then p q r a b c adds front =
    let k = front.0 in
    let parts : p ++ (q ++ r) ≡ (p ++ take k q) ++ (drop k q ++ r) =
    ap (λ (l : List ℕ). p ++ (l ++ r)) (sym (take-append-drop k q)) ∙ ap (λ (l : List ℕ). p ++ l) (append_assoc (take k q) (drop k q) r) ∙ sym (append_assoc p (take k q) (drop k q ++ r)) in
    subst (λ (l : List ℕ). AddsFront l a c) (sym parts) (front_of (p ++ take k q) (drop k q ++ r) a c (adds_then p (take k q) a b c adds front.2))
