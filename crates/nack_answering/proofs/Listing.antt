-- What an entry of a NACK asks for, one bit more.
use Rattle.std.proofs.Common.{◌≡◌, ℕ, zero, suc, ◌+◌, Bool, true, false, cond, List, [], ◌∷◌, ◌++◌, map, refl, sym, ap, ◌∙◌, arith, add-one}
use Rattle.std.specs.List.{filter, range_with_len}
use Rattle.std.proofs.lemmas.List.{append_assoc, map-append}
use Rattle.std.proofs.lemmas.List.Elements.{filter-append}
use Rattle.rtcp_wire.specs.declared.packet.Nack.{Nack}
use Rattle.nack_answering.specs.declared.request.Request.{Request}
use Rattle.nack_answering.specs.Asking.{request, following, has_bit, bit_requests}

range_suc : (a n : ℕ) → range_with_len a (suc n) ≡ range_with_len a n ++ (a + n) ∷ []
range_suc a zero = let e : a ≡ a + 0 = omega arith in ap (λ (k : ℕ). k ∷ []) e
range_suc a (suc n) =
    let e : (a + 1) + n ≡ a + suc n = omega arith in
    ap (λ (l : List ℕ). a ∷ l)
    (range_suc (a + 1) n ∙ ap (λ (k : ℕ). range_with_len (a + 1) n ++ k ∷ []) e)

range_more : (n : ℕ) → range_with_len 0 (n + 1) ≡ range_with_len 0 n ++ n ∷ []
range_more n =
    let e : 0 + n ≡ n = omega arith in
    ap (λ (k : ℕ). range_with_len 0 k) (add-one n)
    ∙ range_suc 0 n ∙ ap (λ (k : ℕ). range_with_len 0 n ++ k ∷ []) e

-- the requests of the first bits
abbrev pub bits_of : ℕ → ℕ → Nack → ℕ → List Request
bits_of session media entry n =
    map (request session media) (map (following entry) (filter (has_bit entry) (range_with_len 0 n)))

one_bit : (session media : ℕ) (entry : Nack) (i : ℕ) (b : Bool)
    → map (request session media) (map (following entry) (cond b (i ∷ []) []))
    ≡ cond b (request session media (following entry i) ∷ []) []
one_bit session media entry i true = refl
one_bit session media entry i false = refl

bits_next : (session media : ℕ) (entry : Nack) (n : ℕ)
    → bits_of session media entry (n + 1)
    ≡ bits_of session media entry n ++ bit_requests session media entry n
bits_next session media entry n =
    let r = request session media in
    let f = following entry in
    let p = has_bit entry in
    let xs = range_with_len 0 n in
    ap (λ (l : List ℕ). map r (map f (filter p l))) (range_more n)
    ∙ ap (λ (l : List ℕ). map r (map f l)) (filter-append p xs (n ∷ []))
    ∙ ap (λ (l : List ℕ). map r l) (map-append f (filter p xs) (filter p (n ∷ [])))
    ∙ map-append r (map f (filter p xs)) (map f (filter p (n ∷ [])))
    ∙ ap (λ (l : List Request). bits_of session media entry n ++ l)
    (one_bit session media entry n (p n))

pub bits_more : (session media : ℕ) (entry : Nack) (n : ℕ) (front old new : List Request)
    → old ≡ front ++ bits_of session media entry n
    → new ≡ old ++ bit_requests session media entry n
    → new ≡ front ++ bits_of session media entry (n + 1)
bits_more session media entry n front old new before e =
    e ∙ ap (λ (l : List Request). l ++ bit_requests session media entry n) before
    ∙ append_assoc front (bits_of session media entry n) (bit_requests session media entry n)
    ∙ ap (λ (l : List Request). front ++ l) (sym (bits_next session media entry n))
