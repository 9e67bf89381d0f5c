-- The answers to requests, one after the other.
use Rattle.std.proofs.Common.{◌≡◌, ◌<◌, ℕ, suc, ◌+◌, List, [], ◌∷◌, ◌++◌, length, take, drop, map, get_or, Option, Some, None, refl, sym, ap, ◌∙◌, subst}
use Rattle.std.specs.Prelude.{reverse, option_map}
use Rattle.std.specs.List.{flat_map}
use Rattle.std.proofs.Math.Seq.{drop-cons}
use Rattle.std.proofs.lemmas.List.{append_assoc, append-nil, take_more, take-append-drop, reverse-append, map-append}
use Rattle.std.proofs.lemmas.List.Concat.{flat_map-append}
use Rattle.rtp_io.specs.Outside.{Adds, AddsFront}
use Rattle.rtp_io.specs.Laws.{adds_then, adds_same, front_then}
use Rattle.script_lang.specs.declared.script.SessionLine.{SessionLine}
use Rattle.rtx.specs.Answering.{Call, answered}
use Rattle.rtx.specs.Sending.{Setting}
use Rattle.rtx.specs.declared.answers.Retransmission.{Retransmission}
use Rattle.nack_answering.specs.declared.request.Request.{Request}
use Rattle.nack_answering.specs.Asking.{asks_for}
use Rattle.nack_answering.specs.Answering.{Rules, answers_behind, answer_piece, answer_record}
use Rattle.rtxsend_command.specs.Sent.{pieces_of}

-- the calls of these requests, behind others
abbrev pub asked : List Request → List Call → List Call
asked rs before = reverse (map asks_for rs) ++ before

asked_first : (r : Request) (rs : List Request) (before : List Call)
    → asked (r ∷ rs) before ≡ asked rs (asks_for r ∷ before)
asked_first r rs before =
    ap (λ (l : List Call). l ++ before) (reverse-append (asks_for r ∷ []) (map asks_for rs))
    ∙ append_assoc (reverse (map asks_for rs)) (asks_for r ∷ []) before

asked_more : (rs : List Request) (r : Request) (before : List Call)
    → asked (rs ++ r ∷ []) before ≡ asks_for r ∷ asked rs before
asked_more rs r before =
    ap (λ (l : List Call). reverse l ++ before) (map-append asks_for rs (r ∷ []))
    ∙ ap (λ (l : List Call). l ++ before) (reverse-append (map asks_for rs) (asks_for r ∷ []))

answers_onto : (s : Setting) (before : List Call) (xs ys : List Request)
    → answers_behind s before (xs ++ ys)
    ≡ answers_behind s before xs ++ answers_behind s (asked xs before) ys
answers_onto s before [] ys = refl
answers_onto s before (x ∷ xs) ys =
    ap (λ (l : List (Option Retransmission)). answered s before x.session x.ssrc x.seq ∷ l)
    (answers_onto s (asks_for x ∷ before) xs ys
    ∙ ap (λ (l : List Call). answers_behind s (asks_for x ∷ before) xs ++ answers_behind s l ys)
    (sym (asked_first x xs before)))

pieces_onto : (rules : Rules) (time : ℕ) (before : List Call) (xs ys : List Request)
    → pieces_of rules time before (xs ++ ys)
    ≡ pieces_of rules time before xs ++ pieces_of rules time (asked xs before) ys
pieces_onto rules time before xs ys =
    let f = answer_piece rules.sessions time in
    ap (flat_map f) (answers_onto rules.setting before xs ys)
    ∙ flat_map-append f (answers_behind rules.setting before xs)
    (answers_behind rules.setting (asked xs before) ys)

-- ---- by the first requests of a list

-- what answers a request behind these calls
abbrev pub piece_of : Rules → ℕ → List Call → Request → List ℕ
piece_of rules time before r =
    answer_piece rules.sessions time (answered rules.setting before r.session r.ssrc r.seq)

pub asked_at : (before : List Call) (rs : List Request) (i : ℕ) (d : Request) → i < length rs
    → asks_for (get_or rs i d) ∷ asked (take i rs) before ≡ asked (take (i + 1) rs) before
asked_at before rs i d below =
    sym (asked_more (take i rs) (get_or rs i d) before)
    ∙ ap (λ (l : List Request). asked l before) (sym (take_more rs i d below))

pieces_at : (rules : Rules) (time : ℕ) (before : List Call) (rs : List Request) (i : ℕ)
    (d : Request) → i < length rs
    → pieces_of rules time before (take i rs)
    ++ piece_of rules time (asked (take i rs) before) (get_or rs i d)
    ≡ pieces_of rules time before (take (i + 1) rs)
pieces_at rules time before rs i d below =
    let r = get_or rs i d in
    let xs = take i rs in
    ap (λ (l : List ℕ). pieces_of rules time before xs ++ l)
    (sym (append-nil (piece_of rules time (asked xs before) r)))
    ∙ sym (pieces_onto rules time before xs (r ∷ []))
    ∙ ap (λ (l : List Request). pieces_of rules time before l) (sym (take_more rs i d below))

all_pieces : (rules : Rules) (time : ℕ) (before : List Call) (rs : List Request) (i : ℕ)
    (d : Request) → i < length rs
    → pieces_of rules time before (take i rs)
    ++ (piece_of rules time (asked (take i rs) before) (get_or rs i d)
    ++ pieces_of rules time (asks_for (get_or rs i d) ∷ asked (take i rs) before) (drop (suc i) rs))
    ≡ pieces_of rules time before rs
all_pieces rules time before rs i d below =
    let xs = take i rs in
    sym (ap (λ (l : List Request). pieces_of rules time before l) (sym (take-append-drop i rs))
    ∙ pieces_onto rules time before xs (drop i rs)
    ∙ ap (λ (l : List Request). pieces_of rules time before xs ++ pieces_of rules time (asked xs before) l)
    (drop-cons rs i d below))

pub adds_piece : (rules now : Rules) (time : ℕ) (before : List Call) (rs : List Request) (i : ℕ)
    (d : Request) (a b c : Option (List ℕ)) → now ≡ rules → i < length rs
    → Adds (pieces_of rules time before (take i rs)) a b
    → Adds (piece_of now time (asked (take i rs) before) (get_or rs i d)) b c
    → Adds (pieces_of rules time before (take (i + 1) rs)) a c
adds_piece rules now time before rs i d a b c same below first second =
    let p = pieces_of rules time before (take i rs) in
    let here = asked (take i rs) before in
    let r = get_or rs i d in
    let q = piece_of rules time here r in
    adds_same (p ++ q) (pieces_of rules time before (take (i + 1) rs)) a c
    (pieces_at rules time before rs i d below)
    (adds_then p q a b c first
    (subst (λ (x : Rules). Adds (piece_of x time here r) b c) same second))

pub adds_front : (rules now : Rules) (time : ℕ) (before : List Call) (rs : List Request) (i : ℕ)
    (d : Request) (a b c : Option (List ℕ)) → now ≡ rules → i < length rs
    → Adds (pieces_of rules time before (take i rs)) a b
    → AddsFront (piece_of now time (asked (take i rs) before) (get_or rs i d)) b c
    → AddsFront (pieces_of rules time before rs) a c
adds_front rules now time before rs i d a b c same below first second =
    let p = pieces_of rules time before (take i rs) in
    let here = asked (take i rs) before in
    let r = get_or rs i d in
    let q = piece_of rules time here r in
    let rest = pieces_of rules time (asks_for r ∷ here) (drop (suc i) rs) in
    subst (λ (l : List ℕ). AddsFront l a c) (all_pieces rules time before rs i d below)
    (front_then p q rest a b c first
    (subst (λ (x : Rules). AddsFront (piece_of x time here r) b c) same second))

-- the record that was made for an answer
pub piece_is : (sessions : List SessionLine) (time : ℕ) (x : Option Retransmission) (l : List ℕ)
    → Some l ≡ option_map (answer_record sessions time) x → l ≡ answer_piece sessions time x
piece_is sessions time None l e = absurd cc
piece_is sessions time (Some r) l e = cc
