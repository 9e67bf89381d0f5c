-- What a series of turns does beside its lane: a request is told and noted by the front.
use Rattle.std.proofs.Common.{ℕ, zero, suc, ◌≡◌, Bool, true, false, refl, sym, ap, subst, ◌∙◌, List, [], ◌∷◌, ◌++◌, ◌+◌, length, arith}
use Rattle.std.specs.Prelude.{◌==◌, if◌then◌else◌}
use Rattle.std.proofs.lemmas.Grind.{common_steps}
use Rattle.std.proofs.lemmas.List.{append-nil}
use Rattle.jitter_model.specs.declared.Entry.{Entry}
use Rattle.jitter_model.specs.Turns.{turn, is_quiet, left}
use Rattle.script_lang.specs.Contents.{Contents}
use Rattle.timeline.specs.declared.line.BinLine.{BinLine}
use Rattle.timeline.specs.declared.line.BinLine.TheVariants as told
use Rattle.front_model.specs.declared.Opening.{Opening}
use Rattle.front_model.specs.Events.{FrontEvent, Requested}
use Rattle.rtp_front.specs.Standing.{State, StandsFor}
use Rattle.front_model.specs.Reports.{nack_bytes}
use Rattle.replay_model.specs.Events.{Timeline, Fronted, Told, At, front, kept, lane}
use Rattle.replay_model.specs.Lines.{lines}
use Rattle.replay_model.specs.Turning.{turned, turns_up_to, all_turns, request, all_requested, sent, asked, settled}
use Rattle.bin_core.specs.Stages.{requests_behind, nack_lines, Sends}
use Rattle.lane_core.specs.Lanes.{Sums}
use Rattle.replay_model.specs.Keeping.{TimelinesKeep}

-- ---- turns

pub turns_kept : (n : ℕ) (o : ℕ → Opening) (t l : ℕ) (tl : Timeline) → kept (turns_up_to n o t l tl) ≡ kept tl
turns_kept zero o t l tl = refl
turns_kept (suc n) o t l tl = by_either (turns_kept n o t l (turned o t l tl)) (is_quiet (turn (o l).settings (lane l tl)))
  where
    by_either : kept (turns_up_to n o t l (turned o t l tl)) ≡ kept tl → (b : Bool) → kept (if b then tl else turns_up_to n o t l (turned o t l tl)) ≡ kept tl
    by_either below true = refl
    by_either below false = below

-- ---- requests

requested_front : (o : Opening) (t : ℕ) (xs : List ℕ) (tl : Timeline) → front (all_requested o t xs tl) ≡ requests_behind o.session o.ssrc xs (front tl)
requested_front o t [] tl = refl
requested_front o t (x ∷ xs) tl = requested_front o t xs (Fronted t (Requested (request o x)) ∷ tl)

requested_lines : (o : Opening) (t : ℕ) (xs : List ℕ) (tl : Timeline) → lines (all_requested o t xs tl) ≡ lines tl
requested_lines o t [] tl = refl
requested_lines o t (x ∷ xs) tl = requested_lines o t xs (Fronted t (Requested (request o x)) ∷ tl) ∙ append-nil (lines tl)

requested_kept : (o : Opening) (t : ℕ) (xs : List ℕ) (tl : Timeline) → kept (all_requested o t xs tl) ≡ kept tl
requested_kept o t [] tl = refl
requested_kept o t (x ∷ xs) tl = requested_kept o t xs (Fronted t (Requested (request o x)) ∷ tl)

sent_front : (c : Contents) (o : Opening) (t : ℕ) (xs : List ℕ) (tl : Timeline) → front (sent c o t xs tl) ≡ requests_behind o.session o.ssrc xs (front tl)
sent_front c o t [] tl = refl
sent_front c o t (x ∷ xs) tl = requested_front o t (x ∷ xs) (Told t (told.Nack t o.session (nack_bytes c.settings.ssrc o.ssrc (x ∷ xs))) ∷ tl)

sent_lines : (c : Contents) (o : Opening) (t : ℕ) (xs : List ℕ) (tl : Timeline) → lines (sent c o t xs tl) ≡ lines tl ++ nack_lines c t o.session o.ssrc xs
sent_lines c o t [] tl = sym (append-nil (lines tl))
sent_lines c o t (x ∷ xs) tl = requested_lines o t (x ∷ xs) (Told t (told.Nack t o.session (nack_bytes c.settings.ssrc o.ssrc (x ∷ xs))) ∷ tl)

sent_kept : (c : Contents) (o : Opening) (t : ℕ) (xs : List ℕ) (tl : Timeline) → kept (sent c o t xs tl) ≡ kept tl
sent_kept c o t [] tl = refl
sent_kept c o t (x ∷ xs) tl = requested_kept o t (x ∷ xs) (Told t (told.Nack t o.session (nack_bytes c.settings.ssrc o.ssrc (x ∷ xs))) ∷ tl)

pub nack_sums : (c : Contents) (t session ssrc : ℕ) (xs : List ℕ) → Sums (nack_lines c t session ssrc xs) 0 0 0
nack_sums c t session ssrc [] = record { out_is = refl; lost_is = refl; refused_is = refl }
nack_sums c t session ssrc (x ∷ xs) = record { out_is = refl; lost_is = refl; refused_is = refl }

-- ---- a series

abbrev pub turns_of : (ℕ → Opening) → ℕ → ℕ → Entry → Timeline → Timeline
turns_of o t l e tl = all_turns o t l (At t l e ∷ tl)

pub series_front : TimelinesKeep → (c : Contents) (o : ℕ → Opening) (t l : ℕ) (e : Entry) (tl : Timeline) → front (settled c o t l (At t l e ∷ tl)) ≡ requests_behind (o l).session (o l).ssrc (asked (lane l (turns_of o t l e tl))) (front tl)
series_front keeping c o t l e tl =
    sent_front c (o l) t (asked (lane l (turns_of o t l e tl))) (turns_of o t l e tl)
    ∙ ap (requests_behind (o l).session (o l).ssrc (asked (lane l (turns_of o t l e tl)))) (keeping.series.front_is o t l (At t l e ∷ tl))

pub series_kept : (c : Contents) (o : ℕ → Opening) (t l : ℕ) (e : Entry) (tl : Timeline) → kept (settled c o t l (At t l e ∷ tl)) ≡ kept tl
series_kept c o t l e tl =
    sent_kept c (o l) t (asked (lane l (turns_of o t l e tl))) (turns_of o t l e tl)
    ∙ turns_kept (left (o l).settings (lane l (At t l e ∷ tl))) o t l (At t l e ∷ tl)

pub series_lines : (c : Contents) (o : ℕ → Opening) (t l : ℕ) (e : Entry) (tl : Timeline) → lines (settled c o t l (At t l e ∷ tl)) ≡ lines (turns_of o t l e tl) ++ nack_lines c t (o l).session (o l).ssrc (asked (lane l (turns_of o t l e tl)))
series_lines c o t l e tl = sent_lines c (o l) t (asked (lane l (turns_of o t l e tl))) (turns_of o t l e tl)

-- ---- what is sent

pub sends_none : (t session ssrc : ℕ) (numbers : List ℕ) (x : State) (before : List BinLine) → numbers ≡ [] → Sends t session ssrc numbers x x before before
sends_none t session ssrc numbers x before e =
    subst (λ (xs : List ℕ). Sends t session ssrc xs x x before before) (sym e) (λ c older h. (h, sym (append-nil before)))

some_lines : (c : Contents) (t session ssrc : ℕ) (numbers : List ℕ) → (numbers ≡ [] → ⊥) → nack_lines c t session ssrc numbers ≡ told.Nack t session (nack_bytes c.settings.ssrc ssrc numbers) ∷ []
some_lines c t session ssrc [] ne = absurd (ne refl)
some_lines c t session ssrc (x ∷ xs) ne = refl

pub sends_some :
    (c : Contents) (t session ssrc : ℕ) (numbers : List ℕ) (x y : State) (before after : List BinLine) (bytes : List ℕ) (older : List FrontEvent)
    → (numbers ≡ [] → ⊥)
    → bytes ≡ nack_bytes c.settings.ssrc ssrc numbers
    → after ≡ before ++ told.Nack t session bytes ∷ []
    → ((k : Contents) (es : List FrontEvent) → StandsFor x k es → StandsFor y k (requests_behind session ssrc numbers es))
    → StandsFor x c older
    → (StandsFor y c (requests_behind session ssrc numbers older)) × (after ≡ before ++ nack_lines c t session ssrc numbers)
sends_some c t session ssrc numbers x y before after bytes older ne is added notes h =
    (notes c older h, added ∙ ap (λ (bs : List ℕ). before ++ told.Nack t session bs ∷ []) is ∙ ap (λ (ls : List BinLine). before ++ ls) (sym (some_lines c t session ssrc numbers ne)))

pub empty_is : (xs : List ℕ) (b : Bool) → b ≡ (length xs == 0) → b ≡ true → xs ≡ []
empty_is [] b e t = refl
empty_is (x ∷ xs) b e t = absurd (let long : length xs + 1 ≡ 0 = grind (arith, common_steps) in omega (arith, long))

pub empty_not : (xs : List ℕ) (b : Bool) → b ≡ (length xs == 0) → b ≡ false → xs ≡ [] → ⊥
empty_not xs b e f n = let none : length xs ≡ 0 = ap (λ (ys : List ℕ). length ys) n in let clash : b ≡ true = grind (arith, common_steps) in cc
