-- What comes of the making of a desk that is not made.
use Rattle.std.proofs.Common.{◌≡◌, ◌≢◌, inl, inr, Err, refl}
use Rattle.sqlite.specs.State.{State}
use Rattle.sql_open.specs.declared.fault.CreateError.{CreateError}
use Rattle.sql_open.specs.declared.fault.CreateError.TheVariants.{NotEmpty, Store, Memory}
use Rattle.sql_schema.specs.Tables.{no_schema}
use Rattle.sql_file.specs.MadeFiles.{Creates, create_error}

-- where a desk is not made, the error says whether the database held something
pub unmade : (fault : CreateError) (before after : State) → (fault ≡ NotEmpty → before.now.schema ≢ no_schema) → (fault ≢ NotEmpty → before.now.schema ≡ no_schema) → Creates before after (Err (create_error fault))
unmade NotEmpty before after held none = held refl
unmade Store before after held none = (inl refl, none (λ e. cc))
unmade Memory before after held none = (inr refl, none (λ e. cc))
