-- Requests are noted one after the other; offsets are told so.
use Rattle.std.proofs.Common.{ℕ, zero, suc, ◌≡◌, ◌+◌, ◌<◌, ◌≤◌, refl, sym, ap, subst, ◌∙◌, List, [], ◌∷◌, ◌++◌, map, drop, length, arith}
use Rattle.std.specs.Prelude.{slice_index_or}
use Rattle.std.proofs.lemmas.List.{append_assoc, append-nil}
use Rattle.script_lang.specs.Contents.{Contents}
use Rattle.timeline.specs.declared.line.BinLine.{BinLine}
use Rattle.front_model.specs.Events.{FrontEvent, Requested}
use Rattle.rtx.specs.Requests.{request}
use Rattle.rtp_front.specs.Standing.{State, StandsFor}
use Rattle.bin_core.specs.Stages.{requests_behind}

drop_next : {A : Type 0} (xs : List A) (i : ℕ) (d : A) → i < length xs → drop i xs ≡ slice_index_or xs i d ∷ drop (suc i) xs
drop_next [] i d lt = absurd (omega arith)
drop_next (x ∷ xs) zero d lt = refl
drop_next (x ∷ xs) (suc i) d lt = drop_next xs i d (omega arith)

drop_all : {A : Type 0} (xs : List A) (i : ℕ) → length xs ≤ i → drop i xs ≡ []
drop_all [] zero le = refl
drop_all [] (suc i) le = refl
drop_all (x ∷ xs) zero le = absurd (omega arith)
drop_all (x ∷ xs) (suc i) le = drop_all xs i (omega arith)

-- The first of the numbers were noted; with the others the front comes to stand for all.
pub record Pending (x : State) (c : Contents) (session ssrc : ℕ) (numbers : List ℕ) (i : ℕ) (older : List FrontEvent) : Type 0 where
  pub now : List FrontEvent
  pub stands : StandsFor x c now
  pub is : requests_behind session ssrc numbers older ≡ requests_behind session ssrc (drop i numbers) now

pub none_noted : (x : State) (c : Contents) (session ssrc : ℕ) (numbers : List ℕ) (older : List FrontEvent) → StandsFor x c older → Pending x c session ssrc numbers 0 older
none_noted x c session ssrc numbers older h = record { now = older; stands = h; is = refl }

pub one_noted :
    (x y : State) (c : Contents) (session ssrc seq : ℕ) (numbers : List ℕ) (i j d : ℕ) (older : List FrontEvent)
    → i < length numbers → j ≡ i + 1 → seq ≡ slice_index_or numbers i d
    → ((now : List FrontEvent) → StandsFor x c now → StandsFor y c (Requested (request session ssrc seq) ∷ now))
    → Pending x c session ssrc numbers i older
    → Pending y c session ssrc numbers j older
one_noted x y c session ssrc seq numbers i j d older lt next is notes h =
    let num : suc i ≡ j = omega (arith, next) in
    record {
      now = Requested (request session ssrc seq) ∷ h.now;
      stands = notes h.now h.stands;
      is = h.is ∙ ap (λ (xs : List ℕ). requests_behind session ssrc xs h.now) (drop_next numbers i d lt)
          ∙ ap (λ (n : ℕ). requests_behind session ssrc (drop (suc i) numbers) (Requested (request session ssrc n) ∷ h.now)) (sym is)
          ∙ ap (λ (n : ℕ). requests_behind session ssrc (drop n numbers) (Requested (request session ssrc seq) ∷ h.now)) num;
    }

pub all_noted : (x : State) (c : Contents) (session ssrc : ℕ) (numbers : List ℕ) (i : ℕ) (older : List FrontEvent) → length numbers ≤ i → Pending x c session ssrc numbers i older → StandsFor x c (requests_behind session ssrc numbers older)
all_noted x c session ssrc numbers i older le h =
    subst (λ (es : List FrontEvent). StandsFor x c es) (sym (h.is ∙ ap (λ (xs : List ℕ). requests_behind session ssrc xs h.now) (drop_all numbers i le))) h.stands

-- ---- lines

-- The lines of the first elements were told.
pub record Telling {A : Type 0} (line : A → BinLine) (xs : List A) (i : ℕ) (before now : List BinLine) : Type 0 where
  pub is : before ++ map line xs ≡ now ++ map line (drop i xs)

pub none_told : {A : Type 0} (line : A → BinLine) (xs : List A) (before : List BinLine) → Telling line xs 0 before before
none_told line xs before = record { is = refl }

pub one_told :
    {A : Type 0} (line : A → BinLine) (xs : List A) (i j : ℕ) (d : A) (x : BinLine) (before now more : List BinLine)
    → i < length xs → j ≡ i + 1 → x ≡ line (slice_index_or xs i d) → more ≡ now ++ x ∷ []
    → Telling line xs i before now
    → Telling line xs j before more
one_told {A = A} line xs i j d x before now more lt next is added h =
    let num : suc i ≡ j = omega (arith, next) in
    record {
      is = h.is ∙ ap (λ (ys : List A). now ++ map line ys) (drop_next xs i d lt)
          ∙ ap (λ (y : BinLine). now ++ y ∷ map line (drop (suc i) xs)) (sym is)
          ∙ sym (append_assoc now (x ∷ []) (map line (drop (suc i) xs)))
          ∙ ap (λ (ys : List BinLine). ys ++ map line (drop (suc i) xs)) (sym added)
          ∙ ap (λ (n : ℕ). more ++ map line (drop n xs)) num;
    }

pub all_told : {A : Type 0} (line : A → BinLine) (xs : List A) (i : ℕ) (before now : List BinLine) → length xs ≤ i → Telling line xs i before now → now ≡ before ++ map line xs
all_told {A = A} line xs i before now le h = sym (append-nil now) ∙ sym (h.is ∙ ap (λ (ys : List A). now ++ map line ys) (drop_all xs i le))
