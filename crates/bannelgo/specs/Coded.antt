-- What the sheet's exported calls promise: the fields of an answer that keeps the call's promise.
use Rattle.std.specs.Prelude.{ℕ, ◌≡◌, List}
use Rattle.promises.specs.Answers.{OpenAnswer, EditAnswer, ReadAnswer, LookUpAnswer, ListAnswer}
use Rattle.promises.specs.Promises.{OpenPromise, EditPromise, LookUpPromise}
use Rattle.promises.specs.Reading.{ReadPromise}
use Rattle.promises.specs.Listing.{ListPromise}
use Rattle.bannelgo.specs.declared.fields.Fields.{Fields}
use Rattle.bannelgo.specs.Fields.{open_fields, edit_fields, read_fields, look_up_fields, list_fields}

pub record CodedOpen (img text B W : List ℕ) (f : Fields) (B' W' : List ℕ) : Type 0 where
  pub answer : OpenAnswer
  pub promise : OpenPromise img text B W answer B' W'
  pub coded : f ≡ open_fields answer

pub record CodedEdit (img B : List ℕ) (n : ℕ) (W : List ℕ) (s e : ℕ) (r : List ℕ) (f : Fields) (B' W' : List ℕ) : Type 0 where
  pub answer : EditAnswer
  pub promise : EditPromise img B n W s e r answer B' W'
  pub coded : f ≡ edit_fields answer

pub record CodedRead (img B : List ℕ) (n : ℕ) (W : List ℕ) (f : Fields) (W' : List ℕ) : Type 0 where
  pub answer : ReadAnswer
  pub promise : ReadPromise img B n W answer W'
  pub coded : f ≡ read_fields answer

pub record CodedLookUp (img B : List ℕ) (n : ℕ) (W : List ℕ) (rule position : ℕ) (f : Fields) : Type 0 where
  pub answer : LookUpAnswer
  pub promise : LookUpPromise img B n W rule position answer
  pub coded : f ≡ look_up_fields answer

pub record CodedList (img B : List ℕ) (n : ℕ) (W R : List ℕ) (f : Fields) (W' R' : List ℕ) : Type 0 where
  pub answer : ListAnswer
  pub promise : ListPromise img B n W R answer W' R'
  pub coded : f ≡ list_fields answer
