pub mod CastQueries
pub mod CountQueries
pub mod LastQueries
pub mod MeetingQueries
pub mod ResolutionQueries
