pub mod EditCarried
pub mod ImportCarried
pub mod PackCarried
pub mod PullCarried
pub mod WhyCarried
