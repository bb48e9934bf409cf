-- Ways round the ring.
use Rattle.std.proofs.Common.{◌≡◌, ◌≢◌, ℕ, ◌+◌, ◌^◌, ◌<◌, ◌≤◌, true, false, cond, ltb, eqb, arith}
use Rattle.std.proofs.lemmas.Bool.Decides.{nat_tests}
use Rattle.reload_ids.specs.Ring.{distance, between}

pub tells-from : (p x y : ℕ) → p < 2 ^ 128 → x < 2 ^ 128 → y < 2 ^ 128 → distance p x ≡ distance p y
    → x ≡ y
tells-from p x y lp lx ly e = grind arith

pub tells-to : (p x y : ℕ) → p < 2 ^ 128 → x < 2 ^ 128 → y < 2 ^ 128 → distance x p ≡ distance y p
    → x ≡ y
tells-to p x y lp lx ly e = grind arith

pub one_between : (p j m c d : ℕ) → p < 2 ^ 128 → j < 2 ^ 128 → m < 2 ^ 128 → p ≢ j → c ≡ d
    → cond (eqb m p) c (cond (ltb (distance p m) (distance p j)) 1 0 + c) ≡ cond (eqb m j) d
    (cond (ltb (distance m j) (distance p j)) 1 0 + d)
one_between p j m c d lp lj lm n e = grind (arith, nat_tests)

pub after_next : (j o y m : ℕ) → j < 2 ^ 128 → o < 2 ^ 128 → y < 2 ^ 128 → m < 2 ^ 128
    → distance j o ≤ distance j m → distance j o ≤ distance j y
    → ltb (distance o m) (distance o y) ≡ true → ltb (distance j m) (distance j y) ≡ true
after_next j o y m lj lo ly lm e f g = grind (arith, nat_tests)

pub before_next : (j o y m : ℕ) → j < 2 ^ 128 → o < 2 ^ 128 → y < 2 ^ 128 → m < 2 ^ 128 → j ≢ o
    → j ≢ m → j ≢ y → m ≢ o → y ≢ o → distance j o ≤ distance j m → distance j o ≤ distance j y
    → ltb (distance m o) (distance y o) ≡ true → ltb (distance m j) (distance y j) ≡ true
before_next j o y m lj lo ly lm n1 n2 n3 n4 n5 e f g = grind (arith, nat_tests)

pub beyond : (p l y m : ℕ) → p < 2 ^ 128 → l < 2 ^ 128 → y < 2 ^ 128 → m < 2 ^ 128 → p ≢ l
    → distance p l < distance p y → ltb (distance l m) (distance l y) ≡ true
    → (eqb m p ≡ false) × (ltb (distance p m) (distance p y) ≡ true)
beyond p l y m lp ll ly lm n e f = grind (arith, nat_tests)

pub nearer_back : (p l y m : ℕ) → p < 2 ^ 128 → l < 2 ^ 128 → y < 2 ^ 128 → p ≢ l → p ≢ y
    → distance p l < distance p y → ltb (distance m p) (distance y p) ≡ true
    → ltb (distance m p) (distance l p) ≡ true
nearer_back p l y m lp ll ly n k e f = grind (arith, nat_tests)

-- who has a node before it as its first predecessor owns what lies between them
pub between-nearest : (f k p y : ℕ) → f < 2 ^ 128 → k < 2 ^ 128 → p < 2 ^ 128 → y < 2 ^ 128 → f ≢ p
    → between f k p ≡ true → distance f p ≤ distance y p → distance k p ≤ distance k y
between-nearest f k p y lf lk lp ly n e l = grind (arith, nat_tests)

pub nearest-between : (f k p : ℕ) → f < 2 ^ 128 → k < 2 ^ 128 → p < 2 ^ 128 → f ≢ p
    → distance k p ≤ distance k f → between f k p ≡ true
nearest-between f k p lf lk lp n l = grind (arith, nat_tests)

-- a first predecessor owns what lies behind the second
pub between-second : (s f p k y : ℕ) → s < 2 ^ 128 → f < 2 ^ 128 → p < 2 ^ 128 → k < 2 ^ 128
    → y < 2 ^ 128 → f ≢ p → distance f p < distance s p → between s k f ≡ true
    → distance s p ≤ distance y p → distance k f ≤ distance k y
between-second s f p k y ls lf lp lk ly n l b m = grind (arith, nat_tests)

-- who lies on the way to an id is nearer to its owner
pub between-nearer : (p x k o : ℕ) → p < 2 ^ 128 → x < 2 ^ 128 → k < 2 ^ 128 → o < 2 ^ 128 → p ≢ o
    → distance k o ≤ distance k p → between p x k ≡ true → distance x o < distance p o
between-nearer p x k o lp lx lk lo n l b = grind (arith, nat_tests)

-- a first successor that doesn't lie on the way to an id owns it
pub between-none : (p s k o : ℕ) → p < 2 ^ 128 → s < 2 ^ 128 → k < 2 ^ 128 → o < 2 ^ 128 → s ≢ p
    → between p s k ≡ false → distance p s ≤ distance p o → distance k s ≤ distance k o
between-none p s k o lp ls lk lo n b l = grind (arith, nat_tests)

pub way-positive : (p o : ℕ) → p < 2 ^ 128 → o < 2 ^ 128 → p ≢ o → distance o o < distance p o
way-positive p o lp lo n = grind arith

pub beyond_before : (p l y m : ℕ) → p < 2 ^ 128 → l < 2 ^ 128 → y < 2 ^ 128 → m < 2 ^ 128 → p ≢ l
    → distance l p < distance y p → ltb (distance m l) (distance y l) ≡ true
    → (eqb m p ≡ false) × (ltb (distance m p) (distance y p) ≡ true)
beyond_before p l y m lp ll ly lm n e f = grind (arith, nat_tests)

pub nearer_on : (p l y m : ℕ) → p < 2 ^ 128 → l < 2 ^ 128 → y < 2 ^ 128 → p ≢ l → p ≢ y
    → distance l p < distance y p → ltb (distance p m) (distance p y) ≡ true
    → ltb (distance p m) (distance p l) ≡ true
nearer_on p l y m lp ll ly n k e f = grind (arith, nat_tests)
