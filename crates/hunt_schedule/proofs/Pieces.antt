-- Texts that grew by pieces.
use Rattle.std.proofs.Common.{◌≡◌, ◌∙◌, ◌<◌, ◌+◌, ◌++◌, ◌∷◌, [], List, ℕ, ap, append_assoc, decimal, get_or, length, sym, take}
use Rattle.std.proofs.lemmas.List.{append-nil, take_more}
use Rattle.hunt_schedule.specs.Headline.{each_between}

pub seven : (a b c d e f g : List ℕ)
    → (((((a ++ b) ++ c) ++ d) ++ e) ++ f) ++ g ≡ a ++ (b ++ (c ++ (d ++ (e ++ (f ++ g)))))
seven a b c d e f g =
    append_assoc ((((a ++ b) ++ c) ++ d) ++ e) f g
    ∙ append_assoc (((a ++ b) ++ c) ++ d) e (f ++ g)
    ∙ append_assoc ((a ++ b) ++ c) d (e ++ (f ++ g))
    ∙ append_assoc (a ++ b) c (d ++ (e ++ (f ++ g)))
    ∙ append_assoc a b (c ++ (d ++ (e ++ (f ++ g))))

-- the same between two parts of a text for some numbers and a further one
each_more : (before numbers after : List ℕ) (n : ℕ)
    → each_between before (numbers ++ n ∷ []) after
    ≡ each_between before numbers after ++ (before ++ (decimal n ++ after))
each_more before [] after n = append-nil (before ++ (decimal n ++ after))
each_more before (m ∷ numbers) after n =
    ap (λ rest. (before ++ (decimal m ++ after)) ++ rest) (each_more before numbers after n)
    ∙ sym (append_assoc (before ++ (decimal m ++ after)) (each_between before numbers after)
    (before ++ (decimal n ++ after)))

pub each_further : (before numbers after start line grown : List ℕ) (i d : ℕ) → i < length numbers
    → line ≡ start ++ each_between before (take i numbers) after
    → grown ≡ line ++ (before ++ (decimal (get_or numbers i d) ++ after))
    → grown ≡ start ++ each_between before (take (i + 1) numbers) after
each_further before numbers after start line grown i d inside so more =
    let n : ℕ = get_or numbers i d in
    let piece : List ℕ = before ++ (decimal n ++ after) in
    more ∙ ap (λ l. l ++ piece) so
    ∙ append_assoc start (each_between before (take i numbers) after) piece
    ∙ ap (λ rest. start ++ rest)
    (sym (each_more before (take i numbers) after n)
    ∙ ap (λ ns. each_between before ns after) (sym (take_more numbers i d inside)))

pub four : (a b c d e : List ℕ) → (((a ++ b) ++ c) ++ d) ++ e ≡ a ++ (b ++ (c ++ (d ++ e)))
four a b c d e =
    append_assoc ((a ++ b) ++ c) d e ∙ append_assoc (a ++ b) c (d ++ e)
    ∙ append_assoc a b (c ++ (d ++ e))

pub eight : (a b c d e f g h : List ℕ)
    → ((((((a ++ b) ++ c) ++ d) ++ e) ++ f) ++ g) ++ h
    ≡ a ++ (b ++ (c ++ (d ++ (e ++ (f ++ (g ++ h))))))
eight a b c d e f g h =
    append_assoc (((((a ++ b) ++ c) ++ d) ++ e) ++ f) g h ∙ seven a b c d e f (g ++ h)
