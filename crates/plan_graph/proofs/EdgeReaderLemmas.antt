-- Reading outputs and inputs of several lists. Lemmas for src/edge_reader.rt.
use Rattle.std.proofs.Common.{◌≡◌, true, false, bytes_eq, ℕ, List, [], ◌∷◌, ◌++◌, Option, Result, Ok, Err, refl, ap, sym, ◌∙◌}
use Rattle.std.specs.Prelude.{◌||◌, if◌then◌else◌, not}
use Rattle.plan_graph.specs.declared.fault.GraphFault.{GraphFault}
use Rattle.plan_graph.specs.declared.files.File.{File}
use Rattle.plan_graph.specs.Files.{Path, Table, file_of, with_file}
use Rattle.plan_text.specs.Outcome.{◌>>=◌}
use Rattle.plan_graph.specs.Reading.{is_own, with_use, with_input, with_inputs, with_output, with_outputs}

-- a result with a table
abbrev pub okay : Table → Result Table GraphFault
okay files = Ok files

-- a result with a fault
abbrev pub refused : GraphFault → Result Table GraphFault
refused fault = Err fault

-- equal results have equal tables
pub ok_is : (x y : Table) → okay x ≡ okay y → x ≡ y
ok_is x y e = cc

-- inputs of two lists, one after the other
pub inputs_app : (own : Option ℕ) (files : Table) (xs ys : List Path) → with_inputs own files (xs ++ ys) ≡ with_inputs own (with_inputs own files xs) ys
inputs_app own files [] ys = refl
inputs_app own files (x ∷ xs) ys = inputs_app own (with_input own files x) xs ys

outputs_app : (number : ℕ) (files : Table) (xs ys : List Path) → with_outputs files number (xs ++ ys) ≡ (with_outputs files number xs >>= λ more. with_outputs more number ys)
outputs_app number files [] ys = refl
outputs_app number files (x ∷ xs) ys =
    elim (with_output files number x (file_of x files)) as (λ r. (r >>= λ more. with_outputs more number (xs ++ ys)) ≡ ((r >>= λ more. with_outputs more number xs) >>= λ more. with_outputs more number ys))
    [ Ok more ↦ outputs_app number more xs ys | Err e ↦ refl ]

-- inputs of three lists, one after another
pub three_inputs : (own : Option ℕ) (files one two : Table) (xs ys zs : List Path) → okay (with_inputs own files xs) ≡ Ok one → okay (with_inputs own one ys) ≡ Ok two
    → with_inputs own two zs ≡ with_inputs own files (xs ++ (ys ++ zs))
three_inputs own files one two xs ys zs e f =
    let front : with_inputs own files xs ≡ one = ok_is (with_inputs own files xs) one e in
    let back : with_inputs own one ys ≡ two = ok_is (with_inputs own one ys) two f in
    sym (inputs_app own files xs (ys ++ zs) ∙ (ap (λ t. with_inputs own t (ys ++ zs)) front ∙ (inputs_app own one ys zs ∙ ap (λ t. with_inputs own t zs) back)))

-- outputs of two lists, one after the other
pub two_outputs : (number : ℕ) (files one : Table) (xs ys : List Path) → with_outputs files number xs ≡ Ok one → with_outputs one number ys ≡ with_outputs files number (xs ++ ys)
two_outputs number files one xs ys e = sym (outputs_app number files xs ys ∙ ap (λ r. r >>= λ more. with_outputs more number ys) e)

-- a fault of some outputs is a fault of more outputs
pub outputs_refused : (number : ℕ) (files : Table) (fault : GraphFault) (xs ys : List Path) → with_outputs files number xs ≡ Err fault → with_outputs files number (xs ++ ys) ≡ Err fault
outputs_refused number files fault xs ys e = outputs_app number files xs ys ∙ ap (λ r. r >>= λ more. with_outputs more number ys) e

-- a result with a row
abbrev pub row_okay : List ℕ → Result (List ℕ) GraphFault
row_okay row = Ok row

-- equal results have equal rows
pub row_is : (x y : List ℕ) → row_okay x ≡ row_okay y → x ≡ y
row_is x y e = cc

-- a path that is used stays the same
pub used_stays : (own : Option ℕ) (file : File) → file.is_used ≡ true → with_use own file ≡ file
used_stays own file e = ap (λ b. record { producer = file.producer; is_used = b || not (is_own file.producer own) }) e ∙ ap (λ b. record { producer = file.producer; is_used = b }) (sym e)

file_stays : (files : Table) (path : Path) → (file_of path files).is_used ≡ true → with_file files path (file_of path files) ≡ files
file_stays [] path e = cc
file_stays (f ∷ fs) path e =
    elim (bytes_eq path f.0) as (λ b. (if b then f.1 else file_of path fs).is_used ≡ true
    → (if b then (f.0, (if b then f.1 else file_of path fs)) ∷ fs else f ∷ with_file fs path (if b then f.1 else file_of path fs)) ≡ f ∷ fs)
    [ true ↦ λ h. refl | false ↦ λ h. ap (λ (t : Table). f ∷ t) (file_stays fs path h) ] e
