-- Askings in a row.
use Rattle.std.proofs.Common.{◌≡◌, ℕ, Bool, true, false, if◌then◌else◌, zero, suc, ◌+◌, ◌-◌, ◌^◌, ◌≤◌, min, ap, ◌∙◌, arith}
use Rattle.rmecore.specs.Simulated.{one_more}
use Rattle.crash_plans.specs.Plans.{Askings, asked_once, many_more, NeverCrashes, Fell}

pub many_is : (k c : ℕ) → c ≤ 2 ^ 64 - 1 → many_more k c ≡ min (c + k) (2 ^ 64 - 1)
many_is zero c h = omega arith
many_is (suc k) c h = ap one_more (many_is k c h) ∙ (let e : one_more (min (c + k) (2 ^ 64 - 1)) ≡ min (c + suc k) (2 ^ 64 - 1) = omega arith in e)

pub many_add : (j k c : ℕ) → many_more k (many_more j c) ≡ many_more (j + k) c
many_add j zero c = ap (λ (m : ℕ). many_more m c) (let e : j ≡ j + 0 = omega arith in e)
many_add j (suc k) c = ap one_more (many_add j k c) ∙ ap (λ (m : ℕ). many_more m c) (let e : suc (j + k) ≡ j + suc k = omega arith in e)

pub asked_on : {a b c : Askings} {j k n : ℕ} → NeverCrashes j a b → NeverCrashes k b c → j + k ≡ n → NeverCrashes n a c
asked_on {a} {b} {c} {j} {k} {n} h t sum = record { asked = t.asked ∙ ap (many_more k) h.asked ∙ many_add j k a.asked ∙ ap (λ (m : ℕ). many_more m a.asked) sum; fallen = t.fallen ∙ h.fallen }

pub fell_on : {a b c : Askings} {j k n : ℕ} → NeverCrashes j a b → Fell k b c → j + k ≡ n → Fell n a c
fell_on {a} {b} {c} {j} {k} {n} h t sum = record { asked = t.asked ∙ ap (many_more k) h.asked ∙ many_add j k a.asked ∙ ap (λ (m : ℕ). many_more m a.asked) sum; fallen = t.fallen ∙ ap one_more h.fallen }

-- one asking
pub goes_on_once : (a b : Askings) (falls : Bool) → b ≡ asked_once falls a → falls ≡ false → NeverCrashes 1 a b
goes_on_once a b falls e h = record { asked = ap (λ (k : Askings). k.asked) e; fallen = ap (λ (k : Askings). k.fallen) e ∙ ap (λ (f : Bool). if f then one_more a.fallen else a.fallen) h }

pub falls_once : (a b : Askings) (falls : Bool) → b ≡ asked_once falls a → falls ≡ true → Fell 1 a b
falls_once a b falls e h = record { asked = ap (λ (k : Askings). k.asked) e; fallen = ap (λ (k : Askings). k.fallen) e ∙ ap (λ (f : Bool). if f then one_more a.fallen else a.fallen) h }
