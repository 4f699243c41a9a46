-- Laws of what a writer and a reader are left with.
use Rattle.std.proofs.Common.{◌≡◌, ℕ, ◌+◌, ◌-◌, ◌≤◌, List, [], ◌++◌, None, Some, length, take, drop, refl, sym, ap, subst, ◌∙◌, append_assoc, append-nil, take_all, length-drop, arith}
use lib.Seq.{length-take-le, take-append_seam, drop-append_seam}
use Rattle.std.proofs.lemmas.List.{take_rest, take-append-le}
use Rattle.std.proofs.Math.Seq.{take-add}
use Rattle.std.specs.Prelude.{Result, OnOk}
use Rattle.std.specs.declared.option.Option.{Option}
use Rattle.std.specs.Io.KnownBytes.{Appends, Consumes, Keeps}
use Rattle.std.proofs.KnownBytes.{Consumes-kept, Consumes-nil, Consumes-trans, Appends-trans}
use Rattle.streams.specs.Left.{Begins, Grows, GrowsByFront, Ends, Drains}

-- ---- writers
-- in other words: some bytes were appended
pub appends_grows : (a b : Option (List ℕ)) (bs : List ℕ) → Appends a b bs → Grows a b
unfolding Begins
appends_grows None b bs p text q = absurd q
appends_grows (Some x) None bs p text q = absurd p
appends_grows (Some x) (Some y) bs p text q = (q.0 ++ bs, p ∙ ap (λ (l : List ℕ). l ++ bs) q.1 ∙ append_assoc text q.0 bs)

pub grows_appends : (a b : Option (List ℕ)) → Grows a b → (bs : List ℕ) × Appends a b bs
unfolding Begins
grows_appends None b g = ([], tt)
grows_appends (Some x) None g = absurd (g x ([], sym (append-nil x)))
grows_appends (Some x) (Some y) g = g x ([], sym (append-nil x))

-- a front of the text, and a front of what is left of it
pub front_more : (a b c : Option (List ℕ)) (text rest : List ℕ) (done n : ℕ) → rest ≡ take (length text - done) (drop done text)
    → Appends a b (take done text) → Appends b c (take n rest) → Appends a c (take (done + n) text)
front_more a b c text rest done n e p q =
    let r : rest ≡ drop done text = e ∙ take_rest text done in
    let t : take done text ++ take n rest ≡ take (done + n) text = ap (λ (l : List ℕ). take done text ++ take n l) r ∙ sym (take-add done n text) in
    subst (Appends a c) t (Appends-trans a b c _ _ p q)

pub rest_fits : (text rest : List ℕ) (done n : ℕ) → rest ≡ take (length text - done) (drop done text) → done ≤ length text → n ≤ length rest → done + n ≤ length text
rest_fits text rest done n e h k = omega (arith, ap length e, ap length (take_rest text done), length-drop done text)

pub front_whole : (a b : Option (List ℕ)) (text : List ℕ) (done : ℕ) → length text ≤ done → Appends a b (take done text) → Appends a b text
front_whole a b text done h p = subst (Appends a b) (take_all done text h) p

-- what is written of a text is written of another that equals it
pub whole_as : {E : Type 0} (r : Result Unit E) (a b : Option (List ℕ)) (text text' : List ℕ) → text ≡ text' → OnOk r (Appends a b text) → OnOk r (Appends a b text')
whole_as r a b text text' e h = subst (λ (x : List ℕ). OnOk r (Appends a b x)) e h

pub front_as : (a b : Option (List ℕ)) (text text' : List ℕ) → text ≡ text' → GrowsByFront a b text → GrowsByFront a b text'
front_as a b text text' e h = subst (λ (x : List ℕ). GrowsByFront a b x) e h

-- ---- readers
pub consumes_drains : (a b : Option (List ℕ)) (bs : List ℕ) → Consumes a b bs → Drains a b
unfolding Ends
consumes_drains None b bs p text q = absurd q
consumes_drains (Some x) None bs p text q = absurd p
consumes_drains (Some x) (Some y) bs p text q = (q.0 ++ bs, q.1 ∙ ap (λ (l : List ℕ). q.0 ++ l) p ∙ sym (append_assoc q.0 bs y))

pub drains_consumes : (a b : Option (List ℕ)) → Drains a b → (bs : List ℕ) × Consumes a b bs
unfolding Ends
drains_consumes None b g = ([], tt)
drains_consumes (Some x) None g = absurd (g x ([], refl))
drains_consumes (Some x) (Some y) g = g x ([], refl)

-- ---- a buffer that is filled from its place `done` on
front_stays : (done : ℕ) (buf rest : List ℕ) → done ≤ length buf → take done (take done buf ++ rest) ≡ take done buf
front_stays done buf rest h = ap (λ (k : ℕ). take k (take done buf ++ rest)) (sym (length-take-le done buf h)) ∙ take-append_seam (take done buf) rest

rest_behind : (done : ℕ) (buf rest : List ℕ) → done ≤ length buf → drop done (take done buf ++ rest) ≡ rest
rest_behind done buf rest h = ap (λ (k : ℕ). drop k (take done buf ++ rest)) (sym (length-take-le done buf h)) ∙ drop-append_seam (take done buf) rest

-- what was read stands behind what was there
pub taken_more : (a b c : Option (List ℕ)) (buf read rest : List ℕ) (done n : ℕ) → done ≤ length buf → n ≤ length read
    → Consumes a b (take done buf) → Consumes b c (take n read) → Consumes a c (take (done + n) (take done buf ++ (read ++ rest)))
taken_more a b c buf read rest done n h k p q =
    let all = take done buf ++ (read ++ rest) in
    let t : take (done + n) all ≡ take done buf ++ take n read =
    take-add done n all
    ∙ ap (λ (l : List ℕ). l ++ take n (drop done all)) (front_stays done buf (read ++ rest) h)
    ∙ ap (λ (l : List ℕ). take done buf ++ take n l) (rest_behind done buf (read ++ rest) h)
    ∙ ap (λ (l : List ℕ). take done buf ++ l) (take-append-le n read rest k) in
    subst (Consumes a c) (sym t) (Consumes-trans a b c _ _ p q)

-- an error of a read keeps what there was
pub taken_kept : (a b c : Option (List ℕ)) (buf rest : List ℕ) (done : ℕ) → done ≤ length buf → Consumes a b (take done buf) → Keeps b c → Consumes a c (take done (take done buf ++ rest))
taken_kept a b c buf rest done h p q = subst (Consumes a c) (sym (front_stays done buf rest h)) (Consumes-kept a b c _ p q)

-- and so does a read that gives nothing
pub nothing_kept : (a b : Option (List ℕ)) (read : List ℕ) (n : ℕ) → n ≡ 0 → Consumes a b (take n read) → Keeps a b
nothing_kept None b read n e p = tt
nothing_kept (Some x) None read n e p = absurd p
nothing_kept (Some x) (Some y) read n e p = sym (p ∙ ap (λ (k : ℕ). take k read ++ y) e)

pub taken_none : (a : Option (List ℕ)) (buf : List ℕ) → Consumes a a (take 0 buf)
taken_none a buf = Consumes-nil a
