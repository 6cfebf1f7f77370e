-- Which fault the refusal of a statement becomes.
use Rattle.std.proofs.Common.{◌≡◌, ◌≢◌, ◌⊎◌, inl, inr, refl, subst}
use Rattle.sqlite.specs.Effect.{Database}
use Rattle.sqlite.specs.State.{State}
use Rattle.sqlite.specs.declared.error.Error.{Error}
use Rattle.sqlite.specs.declared.error.Error.TheVariants.{SqliteFailure}
use Rattle.sqlite.specs.declared.error.ErrorCode.TheVariants.{OutOfMemory}
use Rattle.sql_desk_tables.specs.declared.columns.ColumnError.{ColumnError}
use Rattle.sql_desk_tables.specs.declared.columns.ColumnError.TheVariants.{Missing, Refused}
use Rattle.sql_model.specs.Standing.{HasNoVersion, IsNewer, IsVersionOf}
use Rattle.sql_open.specs.Known.{edition_of}
use Rattle.sql_open.specs.Opening.{IsOpenCause, IsFaultOf, IsNoDesk, IsNoDeskOf, create_fault_of, fault_of_columns, open_fault_of}
use Rattle.sql_open.specs.declared.fault.OpenFault.{OpenFault}
use Rattle.sql_open.specs.declared.fault.CreateError.TheVariants.{NotEmpty}
use Rattle.sql_open.specs.declared.fault.OpenFault.TheVariants.{NotADesk, NewerVersion, Store, Memory}
use Rattle.sql_open.specs.declared.version.KnownVersion.{KnownVersion}

-- no refusal is that the database holds something
pub never_not_empty : (e : Error) → create_fault_of e ≢ NotEmpty
never_not_empty (SqliteFailure OutOfMemory) h = cc
never_not_empty other h = cc

-- it is the store's, or want of memory
pub of_the_store : (e : Error) → (open_fault_of e ≡ Store) ⊎ (open_fault_of e ≡ Memory)
of_the_store (SqliteFailure OutOfMemory) = inr refl
of_the_store other = inl refl

-- the database is refused as no desk where a column is missing, and only there
pub missing_alone : (f : ColumnError) → fault_of_columns f ≡ NotADesk → f ≡ Missing
missing_alone Missing h = refl
missing_alone (Refused (SqliteFailure OutOfMemory)) h = cc
missing_alone (Refused other) h = cc

-- and no fault of columns is that a later version made the tables
pub never_newer : (f : ColumnError) → fault_of_columns f ≢ NewerVersion
never_newer Missing h = cc
never_newer (Refused (SqliteFailure OutOfMemory)) h = cc
never_newer (Refused other) h = cc

-- ---- why tables that note their version are no desk's

-- the version is wrong
pub by_version : (fault : OpenFault) (s : State) → IsFaultOf HasNoVersion fault s → IsOpenCause fault s
by_version NotADesk s h = inl h
by_version NewerVersion s h = h
by_version Store s h = tt
by_version Memory s h = tt

-- it is known, and they are none of its
pub by_known : (fault : OpenFault) (known : KnownVersion) (s : State) → IsVersionOf (edition_of known) s → fault ≢ NewerVersion → (fault ≡ NotADesk → IsNoDeskOf known s) → IsOpenCause fault s
by_known NotADesk known s is other h = inr (known, is, h refl)
by_known NewerVersion known s is other h = absurd (other refl)
by_known Store known s is other h = tt
by_known Memory known s is other h = tt

-- tables that are the same are no desk's for the same cause
pub cause_same : (fault : OpenFault) (s t : State) → s.now ≡ t.now → IsOpenCause fault s → IsOpenCause fault t
cause_same NotADesk s t same h = subst (λ (d : Database). IsNoDesk (record s { now = d })) same h
cause_same NewerVersion s t same h = subst (λ (d : Database). IsNewer (record s { now = d })) same h
cause_same Store s t same h = tt
cause_same Memory s t same h = tt
